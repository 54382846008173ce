pub mod Told
pub mod DapTold
