-- the answers of the blocks, as look-backs
pub mod Timers
-- the same by the numbers of scans
pub mod Numbered
-- what a block has seen; opaque to the crates above
pub mod Agreement
-- what later answers need of a history
pub mod Past
