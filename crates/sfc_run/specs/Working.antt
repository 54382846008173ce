-- What private clauses cite.

-- lines that came and were obeyed one after the other
pub mod Walking
