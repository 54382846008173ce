pub mod Texts
pub mod Indents
pub mod Numbers
pub mod Sunk
pub mod Operands
pub mod Bodies
pub mod Blocks
