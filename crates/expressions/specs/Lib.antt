-- The rules, in reading order.

-- what the names of the scope stand for
pub mod Names
-- the case of letters is not significant in them
pub mod Letters
-- what the expressions read and the statements write
pub mod Values
