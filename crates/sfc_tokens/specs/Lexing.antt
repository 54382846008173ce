-- What private clauses cite: the lexer as functions, from left to right. The lemmas of proofs/ tie them to the rules
-- above; a public clause cites only how a duration is read from left to right (`duration`, `laws::duration_read`),
-- beside the rule.
pub mod Integers
pub mod Durations
pub mod DurationWords
pub mod Locations
pub mod Literals
pub mod Results
pub mod Tokens
