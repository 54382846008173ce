-- The rules, in reading order.

-- what of a loaded chart is shown where it changes
pub mod Changes
-- which variables are shown
pub mod Watched
-- programs as they stood
pub mod Pictures
