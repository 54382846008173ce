-- faults of a file of tests
mod Faults
