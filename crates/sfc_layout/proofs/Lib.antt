pub mod BoxLemmas
pub mod DrawingLemmas
pub mod SizeLemmas
