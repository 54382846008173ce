-- what a session has written since it was opened on a chart
pub mod Edited
-- the first lines of a text, byte by byte
pub mod Fronts
