-- The rules, in reading order.

-- the cases of a file with their titles, and which of them are wanted
pub mod Cases
-- what comes of cases
pub mod Results
-- what stands between the parts of a text
pub mod Parts
-- results as text, and as XML
pub mod Texts
pub mod Documents
-- what has come of the cases so far
pub mod Tallies
-- what calls answer and write
pub mod Answers
-- What is cited of tests that are opened, and of cases that are run.
pub mod Opening
pub mod Running
pub mod Taking
