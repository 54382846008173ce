-- what a response tells
pub mod Bodies
pub mod Private
