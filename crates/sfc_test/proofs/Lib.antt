-- the cases of a file, one by one
pub mod CasesLeft
-- what is told of cases, one after the other
pub mod CasesTold
-- numbers that are counts
pub mod Counts
-- tests that are opened, and run
pub mod TestsOpened
