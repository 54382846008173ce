-- boxes that share no point
pub mod Apart
-- what a link is, and how it may be drawn
pub mod Links
-- how large the boxes of nodes are
pub mod Sizes
-- how far down a sheet is taken
pub mod Skyline
