-- what the front of a stream is
pub mod Heads
-- how a message stands on a stream
pub mod Frames
-- what is returned, as the rules have it
pub mod Views
-- messages of a stream
pub mod Streams
-- a client, from its first message to its last
pub mod Serving
-- cited by private clauses alone
pub mod Private
