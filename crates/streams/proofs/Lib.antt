-- The lemmas, grouped by subject.
pub mod Beginnings
