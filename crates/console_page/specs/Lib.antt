-- The page on which the returning officer works, and its policy.
pub mod Policies
pub mod Page
