-- What is told of a file of tests.
pub mod Telling
