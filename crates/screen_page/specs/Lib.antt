-- The page that a screen in the hall shows, and its policy.
pub mod Policies
pub mod Page
