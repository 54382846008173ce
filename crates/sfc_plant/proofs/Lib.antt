pub mod Images
pub mod Charts
pub mod Elements
pub mod NamesAt
pub mod Places
-- which values may go to another thread
pub mod Crosses
