-- The rules, in reading order.

-- the words of a line: instants, keywords, and names that stand for words
pub mod Lines
-- the conditions of a test
pub mod Conditions
-- commands that are given beside RUN and UNTIL
pub mod Stimuli
-- what a line says
pub mod Deeds
-- whole files, and their cases
pub mod Files
-- what functions answer
pub mod Answers
-- What is cited of a file that is read line by line.
pub mod Reading
