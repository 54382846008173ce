-- The rules, in reading order.

-- numbers and names
pub mod Topics
-- explanations by number and by name
pub mod Finding
-- explanations as text
pub mod Pages
