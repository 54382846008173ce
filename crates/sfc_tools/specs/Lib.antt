-- The rules, in reading order.

-- why there is no text, and the codes that say so
pub mod Codes
-- what a call tells
pub mod Told
-- what list, replay and draw print
pub mod Listings
pub mod Plays
pub mod Drawings
-- what why prints
pub mod Reports
-- what wave and cover print
pub mod Runs
-- what test prints
pub mod Outcomes
-- what a prompt answers
pub mod Answers
