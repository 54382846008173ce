-- texts in memory, and what is taken of them
pub mod Taken
-- why there is no text
pub mod Untold
-- the texts that are told
pub mod Texts
-- answers to lines
pub mod Answered
-- the outcome of tests
pub mod Outcome
