-- sets of which each place is in both or in neither
pub mod Sets
-- what follows from what holds where there is a value
pub mod Follow
-- shots of the first programs, and one more
pub mod Shots
