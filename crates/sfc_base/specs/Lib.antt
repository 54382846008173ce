-- The rules, in reading order.

-- words that are one but for the case of their letters
pub mod Case
-- what a byte may begin
pub mod Classes
-- the longest run of bytes of one alphabet
pub mod Runs
-- the reserved words
pub mod Words
-- words and names
pub mod Names
-- names among names
pub mod NameLists
-- integers
pub mod Numbers
-- durations, and values of type TIME
pub mod Durations
-- the text of a TIME value
pub mod TimeText
-- instants of the run clock
pub mod Instants
-- values, their types, and the ranges of types
pub mod Values
-- directly represented variables
pub mod Locations
-- the text of a location
pub mod LocationText
-- the front of a list
pub mod Leading
-- bounds on counted work
pub mod Ticks
-- what a writer holds after a write
pub mod Writing
-- What private clauses cite.
pub mod Private
