-- What private clauses cite.

-- numbers in an order
pub mod Orders
