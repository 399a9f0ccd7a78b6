-- Lemmas.
pub mod ApartLemmas
pub mod DrawingLemmas
pub mod FileLemmas
pub mod LetterLemmas
pub mod MakingLemmas
pub mod NumberLemmas
pub mod Rows
