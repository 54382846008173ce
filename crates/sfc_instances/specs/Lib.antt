-- The rules, in reading order.

-- how the variables and the program instances stand, and what scans and resets make of that
pub mod PlantState
-- where the faults are that stand
pub mod Places
-- what gives variables values of their types
pub mod Types
-- how the scans of a task's instances end
pub mod Ends
-- what the SINGLE of tasks reads
pub mod Singles
-- how much an event handles
pub mod Work
-- what `Instances` agree with; opaque to the crates above
pub mod Agreement
-- what later answers need of a history
pub mod Past
-- What private clauses cite.
pub mod Private
-- What the crates above name through this one.
pub use Rattle.sfc_instance.specs.sfc_action as sfc_action
pub use Rattle.sfc_instance.specs.sfc_image as sfc_image
pub use Rattle.sfc_instance.specs as sfc_instance
pub use Rattle.sfc_instance.specs.sfc_tables as sfc_tables
