-- Lemmas shared by the proofs for the readers.
pub mod KeyedLemmas
pub mod MarkLemmas
pub mod FieldLemmas
pub mod MapLemmas
pub mod HeaderLemmas
pub mod FlawLemmas
pub mod RecordLemmas
pub mod ReadLemmas
pub mod FileLemmas
pub mod StandLemmas
pub mod Rows
