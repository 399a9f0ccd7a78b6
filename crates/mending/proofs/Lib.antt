pub mod TurnLemmas
pub mod FirstFlaws
