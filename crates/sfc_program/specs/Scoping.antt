-- Where the loader looks names up.
pub mod AnyCase
