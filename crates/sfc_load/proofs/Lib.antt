pub mod Named
pub mod Walk
pub mod Soundness
pub mod Locations
pub mod Scopes
pub mod CheckedScopes
-- What the crates above name through this one.
pub use Rattle.sfc_program.proofs.of_sfc_check as of_sfc_check
pub use Rattle.sfc_program.proofs as of_sfc_program
pub use Rattle.sfc_program.proofs.of_sfc_variables as of_sfc_variables
