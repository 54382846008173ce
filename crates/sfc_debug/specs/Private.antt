-- What private clauses cite, on which no promise rests.

-- the instants of a clock
pub mod Ranges
-- the rows of a trace
pub mod Newest
-- what an answer tells
pub mod Telling
