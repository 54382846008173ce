-- a script that is played with breakpoints
pub mod Hits
