-- The rules, in reading order.

-- which commands a resource stands for, and what was saved of it
pub mod Resources
-- what a handle owns
pub mod Held
-- what C reads of answers, values and points; the library's own codes
pub mod Codes
-- what a handle's calls answer
pub mod Handles
-- why a text is not opened
pub mod Faults
-- what is read without a command
pub mod Readings
-- the numbers of what names stand for
pub mod Found
-- what has a name: counts, names and numbers
pub mod Names
-- texts that are given to a caller's buffer
pub mod Texts
-- lines of scripts, and the lines that are told of them
pub mod Lines
-- explanations by number
pub mod Explanations
-- which scan comes next, and the scans of all tasks at their releases
pub mod Advancing
-- what a variable is, and where it lies
pub mod About
-- breakpoints with conditions that are read then
pub mod Waiting
-- why a chart is refused, as text and as fields
pub mod Whys
