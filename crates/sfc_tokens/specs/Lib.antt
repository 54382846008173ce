-- The rules, in reading order.

-- literals, by what stands in front of them
pub mod Literals
-- tokens: pieces of text, each as long as it can be, and the first fault
pub mod Lexemes
-- spelled tokens, one behind the other
pub mod Spelling
-- whole texts and their tokens
pub mod Texts
-- tokens without their places
pub mod Tokens
-- What private clauses cite.
pub mod Lexing
