-- What private clauses cite.
pub mod Splitting
pub mod Reading
pub mod Adding
pub mod Instants
pub mod Repeating
