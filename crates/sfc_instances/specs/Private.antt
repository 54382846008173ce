-- What private clauses cite.

-- what the instances of a plant are built of
pub mod Building
-- a scan of a task
pub mod Scanning
pub mod Copying
