-- texts put at the end, one after the other
pub mod Appended
-- decimal digits, several at a time
pub mod Decimals
-- the table of the digits of numbers below a thousand
pub mod Triples
-- the parts of a TIME text
pub mod TimeTexts
-- text that was put in two pieces
pub mod Overlaps
-- a text whose end stands in a line
pub mod Lines
