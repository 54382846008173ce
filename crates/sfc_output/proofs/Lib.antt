-- texts of numbered places, one after the other
pub mod Texts
-- what is kept
pub mod Kept
-- the end of the line of a program instance
pub mod Done
-- the line of a program instance that a fault has ended
pub mod FaultLines
-- the head of that line, with another number of scans
pub mod Heads
-- lines of numbered places, one after the other
pub mod Numbered
-- the line of a scan that hit no breakpoint, piece by piece
pub mod Scans
-- What the crates above name through this one.
pub use Rattle.sfc_debug.proofs.of_sfc_core as of_sfc_core
pub use Rattle.sfc_debug.proofs as of_sfc_debug
