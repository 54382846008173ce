-- What private functions answer.
pub mod Faults
pub mod Opening
pub mod Playing
pub mod Telling
