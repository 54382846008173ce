-- run instants in and out of range
pub mod Instants
-- places of breakpoints
pub mod Places
-- openings
pub mod Openings
-- what a hit wants
pub mod Hitting
-- what a command answers and leaves
pub mod Commands
-- when the mode is Stopped
pub mod Halting
-- a pause
pub mod Pauses
-- what is known of accepted commands
pub mod Accepting
-- which breakpoints are set
pub mod Setting
-- what was told to the resource
pub mod Erasing
-- what was set last
pub mod Latest
-- what a debugger keeps of its commands
pub mod Keeping
-- what goes by the past of the commands
pub mod Pasts
-- what a longer table of conditions changes: nothing
pub mod Longer
pub mod LongerAccepted
-- ---- what the definitions give at single moments of small plants, worked out by hand

-- how commands are written
pub mod MomentsCommands
-- what a scan is answered whose turn it is
pub mod MomentsTurns
-- the run clock, single scans, what is read, and epochs
pub mod MomentsClock
-- when a scan hits
pub mod MomentsHits
-- two tasks, single scans and a breakpoint, command by command
pub mod MomentsTasks
-- the order of refusals
pub mod MomentsRefusals
-- which values may go to another thread
pub mod Crosses
pub mod Sums
-- What the crates above name through this one.
pub use Rattle.sfc_core.proofs as of_sfc_core
pub use Rattle.sfc_core.proofs.of_sfc_instances as of_sfc_instances
pub use Rattle.sfc_core.proofs.of_sfc_tasks as of_sfc_tasks
