-- words of a line
mod Splitting
pub mod Parts
-- what texts are read as
mod Tests
mod Numbers
mod ConditionTexts
mod JoinedParts
-- lines of a file
mod Lines
