-- What private clauses cite.

-- lists that are written text by text
pub mod ListParts
-- the lines of scans and of program instances, piece by piece
pub mod Pieces
