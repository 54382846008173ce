pub mod Pasts
-- openings
pub mod OpeningsMade
mod Instants
-- what a variable of the image is
-- what SINGLE reads where no task has one
pub mod Singled
-- which SINGLE rises
pub mod Rises
-- many events
pub mod Runs
-- the first refusal, by parts
pub mod Verdicts
-- what an accepted event leaves
pub mod Accepted
-- accepted events, and what the tasks are told, in order
pub mod Ordered
-- values of the types of variables
pub mod Typed
-- what they are told, between the scans of a task
pub mod Stretched
-- which releases wait
pub mod Releasing
-- what the answer to a scan tells
pub mod Turns
-- an instance with a fault
pub mod Stays
-- where the faults are that stand
pub mod Placed
-- what variables read after an event
pub mod Shown
-- what events do with the variables
pub mod Grows
-- ---- what the definitions give at single moments of small plants, worked out by hand

-- how small plants and their histories are written
pub mod MomentPlants
-- one plant from its first scan on
pub mod Moments
-- which transitions are cleared
pub mod MomentsClearing
-- actions by each qualifier
pub mod MomentsActions
-- faults and resets
pub mod MomentsFaults
-- forces, inputs and refusals
pub mod MomentsForces
-- when tasks are due, and which of them goes first
pub mod MomentsTasks
-- what a history leaves for later events
pub mod MomentsOpenings
mod Bounds
-- which values may go to another thread
pub mod Crosses
-- What the crates above name through this one.
pub use Rattle.sfc_instances.proofs.of_sfc_image as of_sfc_image
pub use Rattle.sfc_instances.proofs as of_sfc_instances
pub use Rattle.sfc_tasks.proofs as of_sfc_tasks
