-- What private clauses cite.

-- which tasks and program instances an event names
pub mod Naming
-- the tasks at the instant of an event, before it
pub mod Ready
-- what the end of an event tells
pub mod Ending
-- tasks without a SINGLE
pub mod Alone
-- which SINGLE rises
pub mod Rising
