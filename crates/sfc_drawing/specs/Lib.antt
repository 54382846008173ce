-- The rules, in reading order.

-- parts of a text, and what stands for markup in them
pub mod Parts
-- rectangles, texts, lines and arrow heads
pub mod Shapes
-- what all elements share
pub mod Elements
-- steps with their action blocks
pub mod Steps
-- transitions
pub mod Transitions
-- links between them
pub mod Links
-- bodies of actions, charts, and the whole text
pub mod Pictures
-- what is told of an instance
pub mod Told
-- what a chart says, and what is drawn of it
pub mod Said
-- what a drawing is
pub mod Drawings
