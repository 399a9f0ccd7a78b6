-- The page on which a clerk keys, and its policy.
pub mod Policies
pub mod Page
