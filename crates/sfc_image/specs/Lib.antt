-- The rules, in reading order.

-- what is done with an image
pub mod Changes
-- which variables there are, and what each reads after changes
pub mod Values
-- the times of steps
pub mod StepTimes
-- what the expressions of a program instance read
pub mod Environments
-- what a body of a program leaves in the variables
pub mod Bodies
-- which statement of a body has the fault that ends it
pub mod BodyFaults
-- what its Boolean actions do with the variables
pub mod Outputs
-- values of the types of variables
pub mod Types
-- what each call answers
pub mod Answers
-- what was written, forced and reset, by what happened
pub mod Events
-- what an `Image` agrees with; opaque to the crates above
pub mod Agreement
-- what later answers need of a history
pub mod Past
-- What private clauses cite.
pub mod Private
