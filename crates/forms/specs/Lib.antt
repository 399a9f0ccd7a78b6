-- The forms of an election evening, byte for byte.
pub mod Pages
pub mod Covers
pub mod Slips
pub mod Verdicts
pub mod Lots
pub mod Declarations
