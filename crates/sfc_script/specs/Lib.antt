-- The rules, in reading order.

-- the lines of a script, and the words of a line
pub mod Lines
-- decimal numbers, and the values that words are
pub mod Values
-- what a word in a name's place stands for
pub mod Names
-- the points of a chart at which a breakpoint may stand
pub mod Points
-- which table of conditions a list of expressions is
pub mod Conditions
-- the commands: a keyword, and what stands behind it; what a line says
pub mod Commands
-- which word makes a line no command
pub mod LineFaults
-- whole scripts
pub mod Scripts
-- lines of text that comes in pieces, and what a line of a session says
pub mod Arriving
pub mod SessionLines
-- what readers of scripts and of conditions answer
pub mod Answers
pub mod ConditionAnswers
-- What private clauses cite.
pub mod Private
-- What the crates above name through this one.
pub use Rattle.sfc_load.specs.sfc_check as sfc_check
pub use Rattle.sfc_debug.specs.sfc_instance as sfc_instance
pub use Rattle.sfc_load.specs as sfc_load
pub use Rattle.sfc_load.specs.sfc_program as sfc_program
pub use Rattle.sfc_load.specs.sfc_variables as sfc_variables
