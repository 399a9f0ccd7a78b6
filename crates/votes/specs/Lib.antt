-- Votes, and votes as text.
pub mod Units
pub mod Text
