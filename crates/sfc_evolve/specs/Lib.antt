-- The rules, in reading order.

-- look-backs over the rows of a life
pub mod Lookback
-- sets of steps
pub mod Marks
-- the set of cleared transitions, by what it is, and rank by rank
pub mod Clearing
-- active steps and step times
pub mod Evolution
-- the same by the numbers of scans
pub mod ScanNumbers
-- how much a scan handles
pub mod Work
-- what a `Steps` agrees with
pub mod Agreement
-- what later answers need of a history
pub mod Past
-- What private clauses cite.
pub mod Private
