-- Lemmas.

-- writes one after the other
pub mod Put
-- reports in the order of the text
pub mod Rising
