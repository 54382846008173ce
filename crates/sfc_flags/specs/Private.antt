-- how words hold flags
pub mod Bits
