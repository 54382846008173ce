-- Typed trees as lists, by which values that hold a tree are told from each other.
pub mod Postfix
pub mod Bodies
