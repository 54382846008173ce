-- What private clauses cite.

-- times of less than a minute
pub mod Seconds
