-- The rules, in reading order.

-- what a debugger was told
pub mod Histories
-- the clock that stands still while the resource is halted
pub mod RunClock
-- running, halted, ended
pub mod Modes
-- which breakpoints are set
pub mod Points
-- when a breakpoint is hit
pub mod Hits
-- how everything stands after the commands
pub mod States
-- what a command is refused for, and what it answers
pub mod Verdict
-- which conditions a history names, and a longer table
pub mod Longer
-- the rows of the trace
pub mod Tracing
-- how much a command handles
pub mod Work
-- what debuggers agree with
pub mod Agreement
-- what a debugger steers
pub mod Steered
-- what a list of commands leaves
pub mod Past
-- what an opening stands for
pub mod Openings
-- the run instant as a sum, the rows that are wanted, and the work of a scan with its number
pub mod Sums
-- what the laws say of halting, of breakpoints, of hits, of a pause, and of what was told
pub mod Meaning
-- ---- what private clauses cite
pub mod Private
-- What the crates above name through this one.
pub use Rattle.sfc_core.specs as sfc_core
pub use Rattle.sfc_core.specs.sfc_image as sfc_image
pub use Rattle.sfc_core.specs.sfc_instance as sfc_instance
pub use Rattle.sfc_core.specs.sfc_instances as sfc_instances
pub use Rattle.sfc_core.specs.sfc_tables as sfc_tables
pub use Rattle.sfc_core.specs.sfc_tasks as sfc_tasks
