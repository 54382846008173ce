-- The rules, in reading order.

-- charts that were read
pub mod Charts
-- what is shown of a chart
pub mod Diagnosing
-- texts that say the same
pub mod Sameness
-- pieces of texts, and names in them
pub mod Pieces
-- what gets another name
pub mod Renaming
