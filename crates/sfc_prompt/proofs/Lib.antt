-- accepted commands, the bytes of names, tasks by their names, the texts of lines
pub mod Accepted
pub mod NameBytes
pub mod Named
pub mod Texts
-- what the line says that is written for an order
pub mod Ordering
-- what a session writes, piece by piece
pub mod Telling
-- steps of which nothing is shown
pub mod Hiding
-- what a session has written since its opening
pub mod Transcripts
-- a session whose answers are written one after the other
pub mod Writing
-- conditions until which steps are taken
pub mod Courses
-- steps of a prompt, one after the other
pub mod Stepping
-- bytes that have come and wait, line by line
pub mod Arriving
pub mod Waits
-- lines that are taken one after the other, and as a reader gives them
pub mod Walking
pub mod Serving
