-- The marks on a ballot paper, its preferences, and how preferences are skipped.
pub mod Columns
pub mod Marking
pub mod MarksText
pub mod Numbers
pub mod Preferences
pub mod Bearers
pub mod Ranking
pub mod Standing
pub mod Padded
pub mod Digits
