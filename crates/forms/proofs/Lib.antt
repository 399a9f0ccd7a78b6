-- Shared lemmas of the proofs for the forms.
pub mod Markup
