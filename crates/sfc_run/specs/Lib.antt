-- The rules, in reading order.

-- what a run is opened with, and its exit status
pub mod Running
-- the clock of a run
pub mod RealTime
-- the posts of the workers
pub mod Posting
-- what a console keeps of a call
pub mod Consoles
-- the epochs of a run itself
pub mod Keeping
-- which lines of a session ask how all stands
pub mod Asks
-- what a session tells
pub mod SessionText
-- what a session does with the lines that it reads
pub mod Holding
-- a debugger that follows a run
pub mod Following
-- when overruns are told
pub mod Overruns
-- when lost rows are told
pub mod Losses
-- what is shown where it changes
pub mod Screens
-- what that is, by names
pub mod Picking
-- the record of a run
pub mod Recording
-- where it goes on behind lost rows
pub mod Resuming
-- what is told beside the lines
pub mod Alarms
-- what a replay of the record writes
pub mod Records
-- what a look into the feed finds
pub mod Draining
-- what is printed of the feed
pub mod Printing
-- why workers ended
pub mod WorkerEnds
-- what the audit at the end finds
pub mod Auditing
-- what went wrong in a run
pub mod Faults
-- What private clauses cite.
pub mod Working
