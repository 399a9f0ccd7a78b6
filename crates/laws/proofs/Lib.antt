pub mod ObservationLemmas
pub mod ConditionLemmas
pub mod AwayLemmas
pub mod SealedLemmas
