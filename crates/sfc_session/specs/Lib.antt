-- The rules, in reading order.

-- a session: what it has accepted, what it has said of it, and its script
pub mod Sessions
-- which scan it is that has no instant, or that names no task
pub mod Scanning
-- scans that are tried
pub mod Trying
