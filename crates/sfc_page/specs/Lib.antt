-- The rules, in reading order.

-- the text of values
pub mod Values
-- a text whose end stands in a line
pub mod Lines
-- What private clauses cite.
pub mod Private
