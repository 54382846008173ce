-- states that differ by what a scan may have changed
pub mod Apart
-- conditions that ask for a least time of a step
pub mod Asked
-- conditions of all transitions
pub mod Evaluated
-- those that may be enabled
pub mod Candidates
-- numbers that are known at each place
pub mod Timed
-- times that are there already, and those that a scan reads
pub mod Varied
-- actions one after the other
pub mod Acted
-- declared actions that aren't executed
pub mod Skipped
-- Boolean actions, all at once
pub mod Outputs
-- what the actions of a scan leave in the image
pub mod Left
-- what the expressions of a scan read
pub mod Readings
pub mod Repeated
-- how a scan ends
pub mod Scanned
-- the range of step times
pub mod StepTimes
-- the types of what a scan gives
pub mod Typed
-- what stays of a scan that faults
pub mod Faults
-- what is found at the place of a fault
pub mod FoundAgain
pub mod Held
-- what a program shows of its tables
pub mod Places
pub mod Bounds
-- the past of how an instance stands
pub mod Pasts
pub mod Windows
-- What the crates above name through this one.
pub use Rattle.sfc_image.proofs as of_sfc_image
