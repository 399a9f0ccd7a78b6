-- The lemmas, by topic.
pub mod StreamLemmas
pub mod TableLemmas
pub mod OfLemmas
pub mod ClosingLemmas
pub mod TraceLemmas
pub mod BoundLemmas
