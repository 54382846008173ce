-- The rules, in reading order.

-- what is taken from a reader
pub mod Reading
-- what check_chart and list_chart answer and write
pub mod Acceptance
-- what a chart and a script are opened as
pub mod Opening
-- what a report is told
pub mod Reports
-- what replay answers and writes
pub mod Replay
-- what each fault becomes; exit statuses and texts
pub mod ReplayErrors
-- What private clauses cite.
pub mod Working
-- What the crates above name through this one.
pub use Rattle.sfc_output.specs.sfc_core as sfc_core
pub use Rattle.sfc_output.specs.sfc_debug as sfc_debug
pub use Rattle.sfc_output.specs.sfc_image as sfc_image
pub use Rattle.sfc_output.specs.sfc_instance as sfc_instance
pub use Rattle.sfc_output.specs.sfc_instances as sfc_instances
pub use Rattle.sfc_script.specs.sfc_load as sfc_load
pub use Rattle.sfc_output.specs as sfc_output
pub use Rattle.sfc_script.specs as sfc_script
pub use Rattle.sfc_output.specs.sfc_tables as sfc_tables
pub use Rattle.sfc_output.specs.sfc_tasks as sfc_tasks
