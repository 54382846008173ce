-- What private clauses cite.
pub mod PlantView
