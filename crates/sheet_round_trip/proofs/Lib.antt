-- Lemmas for the laws of an office's own texts and of its own folders.
pub mod RangeLemmas
pub mod BallotLemmas
pub mod EndLemmas
pub mod ContestedLemmas
pub mod FinishedLemmas
pub mod YesLemmas
pub mod StateLemmas
pub mod ToldLemmas
pub mod LawLemmas
pub mod CountedLemmas
pub mod SealedLemmas
pub mod UnsealedLemmas
pub mod FolderLemmas
pub mod ConfirmedLemmas
pub mod WorkedTexts
