mod Walks
-- a history with one entry more
pub mod Legal
-- a command that was accepted, or barred
pub mod Applying
-- published rows
pub mod FeedRows
-- what an epoch cuts
pub mod Cutting
-- where a history is cut
pub mod Cuts
-- the accepted calls of a seat
pub mod Calls
-- receipts of a history that grows
pub mod Standing
-- the first item without a property
pub mod Firsts
-- receipts whose indices rise
pub mod Indices
-- the receipts that a worker keeps
pub mod Kept
-- one post and its end more
pub mod Manned
-- the entries that are held, after every list with the opening's past
pub mod Overlapping
-- the run clock after the entries of a book
pub mod Lags
-- a refusal by NotDue holds until the release that it tells
mod Waits
-- which values may go to another thread
pub mod Crosses
-- What the crates above name through this one.
pub use Rattle.sfc_debug.proofs as of_sfc_debug
pub use Rattle.sfc_debug.proofs.of_sfc_instances as of_sfc_instances
pub use Rattle.sfc_debug.proofs.of_sfc_tasks as of_sfc_tasks
