-- Lemmas for the laws of the printed texts.
pub mod GroupLemmas
pub mod FigureLemmas
pub mod OnlyLemmas
pub mod StageLemmas
mod WorkedSurplusLaw
