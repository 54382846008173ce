-- The rules, in reading order.

-- sets of program instances
pub mod InstanceSets
-- what an event is
pub mod Events
-- which event a command of the debugger is
pub mod Commands
-- the numbers, names and texts of refusals: of commands, and of texts by the reader and by the loader
pub mod Refusals
pub mod ReadErrors
pub mod LoadErrors
-- the events that were accepted
pub mod History
