pub mod Pasts
pub mod Firsts
pub mod Gained
-- the next multiple that a slot keeps
pub mod Ahead
pub mod MultipleLemmas
pub mod Picking
pub mod Rising
pub mod Tables
pub mod Waited
-- calls cut at the scans of a task
pub mod Cutting
-- the releases of a stretch, counted
pub mod Counting
-- the multiples among them
pub mod Apart
-- ---- what the definitions give for small histories, worked out by hand
pub mod Moments
