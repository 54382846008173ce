-- The rules, in reading order.

-- what names stand for where an expression stands
pub mod Scopes
-- type faults, and what checking gives
pub mod TypeFaults
-- the operators of a text, and which of them share a rule for types
pub mod Families
-- the types that expressions have by themselves
pub mod Naturals
-- the typed tree that a tree of the text is, or its first type fault
pub mod Checking
