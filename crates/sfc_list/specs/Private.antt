-- What private clauses cite.
pub mod Sinking
pub mod Parts
