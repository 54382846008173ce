-- Lemmas.

-- what is found in a list
pub mod Found
-- writes one after the other
pub mod Put
