-- The rules, in reading order.

-- the elements of a program type by kind, and their names
pub mod Elements
-- what names stand for in a program type
pub mod Names
-- what loading accepts of a chart: the checks, in the order in which they are made
pub mod Loading
-- the program type that a text without fault is
pub mod Built
-- What private clauses cite.
pub mod Scoping
-- What the crates above name through this one.
pub use Rattle.sfc_check.specs as sfc_check
pub use Rattle.sfc_variables.specs as sfc_variables
