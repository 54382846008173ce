-- what is cut off the bytes that are held
pub mod Cutting
-- messages, without where they lie in memory
pub mod Texts
-- faults of an answer
pub mod Answers
