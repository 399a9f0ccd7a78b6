-- What import files contain, and how they are read.
pub mod Faults
pub mod Records
pub mod Files
pub mod Candidates
pub mod Batches
pub mod Headers
pub mod Keying
pub mod Reading
pub mod Digests
pub mod Inside
