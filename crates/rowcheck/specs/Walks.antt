-- The results of this crate's private functions, which iterate over the rows to check each condition. No public contract refers to this file, so
-- readers of the contracts can skip it.
pub mod KeyRanges
pub mod Nominations
pub mod Keyings
pub mod Polls
pub mod Counts
