-- What private clauses cite.

-- which events are given
pub mod Given
-- a scan of a task, instance by instance
pub mod Scanning
