-- What private clauses and facts cite, on which no promise rests.

-- what a book's opening is after an accepted command
pub mod Saving
-- what is equal in one way at most
pub mod Sets
-- what a refusal means to a worker
pub mod Turns
