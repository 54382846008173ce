pub mod Checks
pub mod Named
pub mod Within
pub mod Extending
