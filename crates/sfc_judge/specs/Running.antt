-- What is cited of a case that runs.

-- the lines of a case
pub mod Cases
-- where a bench stands, and what it answers
pub mod Benches
-- conditions that are watched, and what becomes of lines
pub mod Watching
