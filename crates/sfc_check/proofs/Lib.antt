pub mod AnyCase
pub mod CheckedTypes
pub mod Checks
