-- The rules, in reading order.

-- lists in a line of text
pub mod Lists
-- the line of a program after a scan
pub mod Programs
-- where a fault is, in words
pub mod FaultPlaces
-- the lines of commands and of their answers
pub mod Commands
-- what is written of a session, and the text of a debugger
pub mod Output
-- what is kept of the lines of program instances
pub mod Memories
-- the lines of the image
pub mod ImageLines
-- What private clauses cite.
pub mod Private
-- What the crates above name through this one.
pub use Rattle.sfc_debug.specs.sfc_core as sfc_core
pub use Rattle.sfc_debug.specs as sfc_debug
pub use Rattle.sfc_debug.specs.sfc_image as sfc_image
pub use Rattle.sfc_debug.specs.sfc_instance as sfc_instance
pub use Rattle.sfc_debug.specs.sfc_instances as sfc_instances
pub use Rattle.sfc_list.specs as sfc_list
pub use Rattle.sfc_debug.specs.sfc_tables as sfc_tables
pub use Rattle.sfc_debug.specs.sfc_tasks as sfc_tasks
