-- The rules, in reading order.

-- what each action's control block gets and gives, scan by scan
pub mod ActionControl
-- the same by the numbers of scans
pub mod ScanNumbers
-- how much a scan handles
pub mod Work
-- what a `Controls` agrees with, and what a `StepInputs` is for
pub mod Agreement
-- what later answers need of a history
pub mod Past
-- What private clauses cite.
pub mod Private
