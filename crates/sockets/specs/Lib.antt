pub mod Errors
pub mod Pollers
