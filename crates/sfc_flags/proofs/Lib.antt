mod Tables
mod Views
mod Nexts
mod Passed
mod Has
mod Apart
mod Same
pub mod Wordwise
pub mod Fewer
mod Cursors
