-- where a walk over a table stands
pub mod Cursors
-- a flag of a table, and its set places
pub mod Flags
-- the flags of 64 places at once
pub mod Words
-- cited by private clauses alone
pub mod Private
