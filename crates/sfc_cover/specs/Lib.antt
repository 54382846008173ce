-- The rules, in reading order.

-- where the program instances beside a debugger stand
pub mod Beside
-- what a `Watch` is large enough for; opaque to the crates above
pub mod Stages
-- what scripts never reach, as marks of a drawing
pub mod Unreached
-- What private clauses cite.
pub mod Private
