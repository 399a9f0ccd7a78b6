-- The lemmas, grouped by subject.
pub mod Quotas
pub mod Cuts
pub mod Texts
