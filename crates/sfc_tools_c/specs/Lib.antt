-- The rules, in reading order.

-- texts that are given to a caller's buffer
pub mod Texts
