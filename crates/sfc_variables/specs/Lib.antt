-- The rules, in reading order.

-- checks, one after the other, and what a function that makes them gives
pub mod Checks
-- where variables lie
pub mod Locations
-- the variables that a text declares
pub mod Declarations
-- the variables of a program type
pub mod Own
-- What private clauses cite.
pub mod Drafts
-- What the crates above name through this one.
pub use Rattle.sfc_check.specs as sfc_check
