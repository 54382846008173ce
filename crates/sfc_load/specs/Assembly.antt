-- What private clauses cite.
pub mod Declared
