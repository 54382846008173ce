-- What private clauses cite.

-- of which associations a scan reads the time
pub mod Timing
-- which conditions are TRUE
pub mod Holding
-- one transition of a scan
pub mod Evaluating
-- what the actions of a scan do with the variables
pub mod Acting
-- how a scan ends
pub mod Scanning
