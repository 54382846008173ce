pub mod Alike
pub mod Cuts
mod Numbers
pub mod Pasts
