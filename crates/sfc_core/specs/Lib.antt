-- The rules, in reading order.

-- how the variables and the program instances stand after a history
pub mod PlantState
-- what SINGLE reads, and what the table of tasks is told
pub mod Due
-- the releases of a task by the events, and which of them no scan has served
pub mod Releases
-- what the readers of a resource answer
pub mod Answers
-- what an event is refused for, and what it gives
pub mod Verdict
-- events in the order of their instants
pub mod Order
-- values of the types of variables
pub mod Types
-- what an event does with forces
pub mod Forcing
-- how much an event handles
pub mod Work
-- what a resource keeps of a history
pub mod Keeping
-- which histories a resource agrees with; opaque to the crates above
pub mod Agreement
-- what later answers need of a history
pub mod Past
-- what an opening stands for; opaque to the crates above
pub mod Openings
-- What private clauses cite.
pub mod Private
-- What the crates above name through this one.
pub use Rattle.sfc_instances.specs.sfc_image as sfc_image
pub use Rattle.sfc_instances.specs.sfc_instance as sfc_instance
pub use Rattle.sfc_instances.specs as sfc_instances
pub use Rattle.sfc_instances.specs.sfc_tables as sfc_tables
pub use Rattle.sfc_tasks.specs as sfc_tasks
