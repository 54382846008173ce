-- a bench
mod Tests
mod Told
mod Active
mod Trying
mod Scanning
mod Stirring
-- cases that run
mod Watched
mod Passing
mod Running
mod Scripts
