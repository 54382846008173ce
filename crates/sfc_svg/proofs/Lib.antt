-- Lemmas.

-- lists, one number or one element more
pub mod Ranges
-- tests of all elements of a list, one element more
pub mod Tests
-- the steps before a transition
pub mod Befores
-- drawings that are written, and such that aren't there
pub mod Putting
-- commands that were given, one after the other
pub mod Giving
-- where draw_types ends
pub mod TypesDrawn
-- where debugger_after and draw_after end
pub mod PlaysDrawn
