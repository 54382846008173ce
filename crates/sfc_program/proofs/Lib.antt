pub mod Typing
pub mod Distinct
pub mod Soundness
pub mod StepNames
pub mod Turns
-- What the crates above name through this one.
pub use Rattle.sfc_check.proofs as of_sfc_check
pub use Rattle.sfc_variables.proofs as of_sfc_variables
