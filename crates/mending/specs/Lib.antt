-- The orders that an office accepted, with some left out and others replaced.
pub mod Names
pub mod Changes
pub mod Mending
pub mod Reports
pub mod Accounts
