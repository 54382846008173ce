pub mod Adding
-- tables of conditions that are made entry by entry
pub mod ConditionTables
pub mod ConditionTexts
pub mod Decimals
pub mod Digits
pub mod FirstLines
pub mod Meanings
pub mod Places
pub mod PlainInstants
pub mod PlainTimes
pub mod Said
pub mod Splits
pub mod TimedLines
pub mod ToldLines
pub mod ToldPlaces
-- What the crates above name through this one.
pub use Rattle.sfc_load.proofs.of_sfc_check as of_sfc_check
pub use Rattle.sfc_load.proofs.of_sfc_program as of_sfc_program
