-- Streams, and what they count.
pub mod Streams
pub mod Counted
