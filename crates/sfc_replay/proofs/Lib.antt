-- a script that is being played
pub mod Playing
-- lines that have come
pub mod Arrivals
-- bytes that were taken from a reader
pub mod Taken
-- where the checking of a chart ends
pub mod Checked
-- where opening ends
pub mod Openings
-- where replay ends
pub mod Replayed
-- what variables begin with
pub mod TypedVariables
-- the types of names in an instance
pub mod TypedNames
-- the actions of a chart
pub mod TypedCharts
-- loaded plants
pub mod TypedPlants
-- What the crates above name through this one.
pub use Rattle.sfc_output.proofs.of_sfc_core as of_sfc_core
pub use Rattle.sfc_output.proofs.of_sfc_debug as of_sfc_debug
