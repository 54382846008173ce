-- What private clauses cite: reading by rules from left to right. The lemmas of proofs/ tie these definitions to the rules; a
-- public clause cites only `fine`, that one token decides (`laws::one_token_decides`).
pub mod Lookahead
pub mod Reading
pub mod Depth
pub mod Counting
pub mod Takes
pub mod Views
pub mod Telling
