-- The lemmas, by topic.
pub mod WordLemmas
pub mod FrameSinkLemmas
pub mod ReadLemmas
pub mod OrderLemmas
mod DestinationLemmas
pub mod KeptLemmas
pub mod AnswerLemmas
pub mod ConsoleLemmas
pub mod ServicingLemmas
pub mod ConnectionLemmas
pub mod ServerLemmas
pub mod BlindLemmas
pub mod AlikeLemmas
