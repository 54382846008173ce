-- Lemmas.

-- texts of lists
pub mod Joins
-- lists of what is drawn
pub mod Lists
