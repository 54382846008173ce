pub mod Copied
pub mod Built
pub mod ScanEnd
pub mod EndBits
pub mod OfOnePlant
pub mod Pasts
-- where the faults are that stand
pub mod Placed
pub mod Scanned
pub mod InstanceState
pub mod TaskScans
pub mod Typed
-- What the crates above name through this one.
pub use Rattle.sfc_instance.proofs.of_sfc_image as of_sfc_image
pub use Rattle.sfc_instance.proofs as of_sfc_instance
