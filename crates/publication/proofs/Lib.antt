-- Lemmas shared by the proofs about the folder.
pub mod FileNames
pub mod Pinned
