-- The rules, in reading order.

-- what is said of the places of an outline
pub mod Places
-- what a plant has under the number that an outline tells
pub mod Naming
