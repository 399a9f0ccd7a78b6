-- The lemmas, grouped by subject.
pub mod PaddedLists
pub mod Rankings
pub mod ByteOrder
pub mod ColumnSets
pub mod Standings
pub mod Fields
pub mod Markings
pub mod Preferences
pub mod Spelling
pub mod DigitLemmas
