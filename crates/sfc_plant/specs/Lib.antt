-- The rules, in reading order.

-- what holds of each chart that a plant can hold
pub mod Chart
-- what a name among variables stands for
pub mod VariableNames
-- the places of steps, actions and transitions by name
pub mod ElementNames
-- the names of a program type
pub mod Spaces
-- the names of what stands in a program type as a number
pub mod Names
-- plants as values
pub mod Plants
-- the program type of a program instance
pub mod ProgramTypes
-- the variables of a plant, those of all instances among them
pub mod Image
-- the names in a program instance
pub mod InstanceSpaces
-- what holds of each plant
pub mod Sound
-- what a name stands for in a plant
pub mod Finding
-- the names of what a plant numbers
pub mod PlantNames
-- the letters of qualifiers
pub mod Letters
-- what a plant is made of
pub mod PlantParts
-- typed trees as lists
pub mod Codes
-- What private clauses cite.
pub mod Private
