-- how deep objects and lists nest
pub mod Depths
-- events that are put one after the other
pub mod Telling
-- a client whose messages were answered one by one
mod Served
