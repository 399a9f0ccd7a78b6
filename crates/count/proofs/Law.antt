-- Consequences of the law of the count, however the papers are stored.
pub mod ActionLemmas
pub mod CandidateSums
pub mod ConservedLemmas
pub mod CountLemmas
pub mod CutLemmas
pub mod DueLemmas
pub mod FinishLemmas
pub mod LengthLemmas
pub mod NamedLemmas
pub mod NewlyLemmas
pub mod OwnLotLemmas
pub mod PassedLemmas
pub mod QuotaLemmas
pub mod RightLemmas
pub mod StepLemmas
pub mod TieLemmas
pub mod ValueLemmas
pub mod VotelessLemmas
mod WorkedElections
