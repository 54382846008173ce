-- The rules, in reading order.

-- where a fault is told
pub mod Places
-- lines and columns
pub mod Positions
-- what a fault of a chart, and of a script, is told as
pub mod Telling
-- a report as text
pub mod Pages
