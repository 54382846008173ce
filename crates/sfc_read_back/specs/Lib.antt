-- The rules, in reading order.

-- the trees that a listing spells: literals, expressions and statements
pub mod WrittenTerms
-- those of variables
pub mod WrittenVariables
-- those of steps, transitions and actions
pub mod WrittenCharts
-- that of a whole plant
pub mod Written
-- where the texts of expressions and statements spell their tokens
pub mod SpelledTexts
-- where the text of a plant spells its tokens
pub mod SpelledPlants
