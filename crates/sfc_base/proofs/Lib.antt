mod Walks
pub mod SameWords
pub mod ReservedWords
pub mod Runs
pub mod Words
pub mod Written
pub mod ByPlace
pub mod NamePlaces
