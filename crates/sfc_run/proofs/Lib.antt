-- which values may go to another thread
pub mod Crosses
-- what holds of a value, where there is one
pub mod Ends
-- lines of rows
pub mod RowLines
-- what was recorded of rows
pub mod Records
-- what is shown of a row
pub mod Showing
-- where a follower goes on from what the run saved
pub mod Resuming
-- one post more
pub mod Posting
-- lines that were obeyed one after the other
pub mod Obeying
-- lines that came in pieces
pub mod Walking
-- epochs of a seat, and then more
pub mod Epochs
