-- The rules, in reading order.

-- what loading accepts: the checks, in the order in which they are made
pub mod Loading
-- the plant that a text without fault is
pub mod Built
-- texts that load as a plant
pub mod Accepted
-- What private clauses cite.
pub mod Assembly
-- What the crates above name through this one.
pub use Rattle.sfc_program.specs.sfc_check as sfc_check
pub use Rattle.sfc_program.specs as sfc_program
pub use Rattle.sfc_program.specs.sfc_variables as sfc_variables
