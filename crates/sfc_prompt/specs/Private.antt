-- What private clauses cite.

-- bytes that have come and wait
pub mod Waiting
