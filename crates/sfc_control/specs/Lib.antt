-- The rules, in reading order.

-- which lists of entries are legal histories
pub mod LegalHistory
-- which entries are held
pub mod Holding
-- what a caller keeps of an accepted command
pub mod Receipts
-- the numbers of seats
pub mod Counts
-- what contracts see of a history
pub mod Histories
-- what a book answers
pub mod Answering
-- the rows of the feed
pub mod Rows
-- a row that goes to the feed
pub mod Publishing
-- what contracts see of the end of a feed that takes rows
pub mod Tails
-- what contracts see of a book
pub mod Books
-- what contracts see of what lies under the lock
pub mod Lock
-- the accepted calls of a seat
pub mod Calls
-- what contracts see of a seat
pub mod Seats
-- what is saved under the lock
pub mod Saved
-- until when a worker may wait
pub mod Waiting
-- what is found at the close
pub mod Closing
-- what a worker's receipts are
pub mod Working
-- a worker's end
pub mod Ends
-- the ends of a crew
pub mod Manning
-- ---- what private clauses cite
pub mod Private
-- What the crates above name through this one.
pub use Rattle.sfc_debug.specs.sfc_core as sfc_core
pub use Rattle.sfc_debug.specs as sfc_debug
