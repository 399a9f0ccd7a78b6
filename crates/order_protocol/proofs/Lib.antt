-- The lemmas, by subject.
pub mod Fields
pub mod MessageParts
pub mod Loop
pub mod Written
pub mod FrameLemmas
pub mod HeadLemmas
