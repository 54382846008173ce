-- what a session has written since it was opened on a chart
pub mod Edited
-- the first lines of a text
pub mod Fronts
-- breakpoints that the last accepted command sets or takes away
pub mod Points
