-- The rules, in reading order.

-- multiples of an interval: which there are, and the next one
pub mod Multiples
-- what the table is told
pub mod Calls
-- the releases of a task, those that wait, and its overruns
pub mod Releases
-- the order among waiting tasks, and which of them is picked
pub mod Pick
-- the multiples and the releases, by what they are
pub mod Meaning
-- the releases between two scans of a task
pub mod Stretches
-- what a `TaskTable` agrees with; opaque to the crates above
pub mod Agreement
-- what later answers need of a history
pub mod Past
-- What private clauses cite.
pub mod Private
