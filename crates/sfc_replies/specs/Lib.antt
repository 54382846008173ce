-- a whole client
pub mod Serving
