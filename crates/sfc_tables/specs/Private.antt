-- What private clauses cite.
pub mod Blocks
pub mod Grouping
pub mod Hashing
pub mod Listing
pub mod Parts
pub mod SameVariables
