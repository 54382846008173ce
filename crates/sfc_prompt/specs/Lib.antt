-- The rules, in reading order.

-- text that is put behind other text; what a text is as a condition
pub mod Notes
pub mod Conditions
-- the words of a line, and what it says
pub mod Words
pub mod Lines
-- what a line tells the session to do, and what becomes of it
pub mod Orders
-- steps that are taken one after the other
pub mod Courses
-- what a prompt holds
pub mod Prompts
-- what a session writes, piece by piece, and what its script says
pub mod Pieces
pub mod Transcripts
-- what becomes of lines, one after the other
pub mod Walks
-- what it reads from a device, and writes to another
pub mod Desks
-- ---- what private clauses cite
pub mod Private
