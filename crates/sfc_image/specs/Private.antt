-- What private clauses cite.

-- what is kept of the variables
pub mod Keeping
-- what was last given to outputs, and how long that holds
pub mod OutputMemos
-- how far they were given their Q
pub mod Giving
-- what writes of a program make of an image
pub mod Stores
