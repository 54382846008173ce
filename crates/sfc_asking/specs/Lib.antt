-- The rules, in reading order.

-- lines that tell of a fault
pub mod Notes
-- What the crates above name through this one.
pub use Rattle.sfc_script.specs.sfc_check as sfc_check
pub use Rattle.sfc_output.specs.sfc_core as sfc_core
pub use Rattle.sfc_output.specs.sfc_debug as sfc_debug
pub use Rattle.sfc_output.specs.sfc_instance as sfc_instance
pub use Rattle.sfc_script.specs.sfc_load as sfc_load
pub use Rattle.sfc_output.specs as sfc_output
pub use Rattle.sfc_script.specs.sfc_program as sfc_program
pub use Rattle.sfc_script.specs as sfc_script
pub use Rattle.sfc_script.specs.sfc_variables as sfc_variables
