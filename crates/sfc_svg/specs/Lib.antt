-- The rules, in reading order.

-- what a drawing of program types is, and why there is none
pub mod Drawn
-- what writing a drawing answers, and what was written
pub mod Written
-- what draw_types answers and writes
pub mod Types
-- what is forced of a program instance
pub mod Forces
-- what the window on a program instance shows, as marks
pub mod Marking
-- the drawing of program instances as they stand
pub mod Standing
-- a chart with a script that was played, and what draw_after answers and writes
pub mod Played
