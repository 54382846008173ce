-- The rules, in reading order.

-- lines and columns
pub mod Positions
-- texts as they change
pub mod Changes
-- a whole client
pub mod Serving
-- what a client has open
pub mod Documents
