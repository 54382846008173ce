-- The rules, in reading order.

-- what holds of the lists in every tree
pub mod Lists
-- what a tree says
pub mod Trees
-- by what tokens are told apart
pub mod Places
pub mod Marks
-- what the grammar nests
pub mod Sorts
-- what a rule derives
pub mod Rules
-- the words in which productions are written
pub mod Terms
-- what productions make of their parts
pub mod Building
-- the grammar: all productions
pub mod Grammar
-- deriving within limits
pub mod Limits
-- what a text is read as
pub mod Reads
-- the tokens of expressions
pub mod Spelled
-- the tokens of statements
pub mod SpelledStatements
-- the tokens of steps, transitions and actions
pub mod SpelledCharts
-- the tokens of variables, program types, the configuration and whole texts
pub mod SpelledSources
-- what a text declares with tokens of its own
pub mod Declares
-- What private clauses cite.
pub mod Parsing
