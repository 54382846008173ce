-- What the crates above name through this one.
pub use Rattle.sfc_output.proofs.of_sfc_debug as of_sfc_debug
pub use Rattle.sfc_script.proofs.of_sfc_program as of_sfc_program
pub use Rattle.sfc_script.proofs as of_sfc_script
