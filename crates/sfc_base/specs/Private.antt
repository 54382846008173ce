-- What private clauses cite.
pub mod Runs
pub mod ReservedWords
