-- The law of the count, paper by paper: what the Order requires of stages, however the papers are stored.
pub mod Contest
pub mod Elected
pub mod Places
pub mod Figures
pub mod Due
pub mod Right
pub mod Count
pub mod Laws
