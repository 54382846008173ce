-- what a longer table of conditions changes of lines: nothing
pub mod Longer
-- commands that were given, and what stays where they are refused
pub mod Given
-- scans that go on to a next release, and tasks that are gone through
pub mod Scans
pub mod Turns
pub mod Trying
-- a breakpoint with a condition that joins the table
pub mod Waiting
-- a session that goes on, and what a replay writes of it
pub mod Saying
