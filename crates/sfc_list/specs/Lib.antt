-- The rules, in reading order.

-- lines, indentation and lists
pub mod Layout
-- the text of types, values and locations
pub mod Values
-- the text of expressions
pub mod Expressions
-- the text of statements
pub mod Statements
-- the text of steps, transitions and actions
pub mod Charts
-- the text of program types and of the configuration: a whole plant
pub mod Listing
-- What private clauses cite.
pub mod Private
