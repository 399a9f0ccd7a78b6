-- Lemmas shared by the proofs about the writers.
pub mod Candidates
pub mod Joined
pub mod Writing
pub mod Utf8
pub mod Bytewise
pub mod Quoted
pub mod Rows
pub mod Withdrawn
pub mod Bundles
pub mod EachAfter
pub mod Places
pub mod Ties
mod WorkedLots
pub mod TieLaw
mod SettledLaw
pub mod SurplusLemmas
pub mod Appended
pub mod ResultsBack
mod WorkedResults
mod WorkedSurpluses
