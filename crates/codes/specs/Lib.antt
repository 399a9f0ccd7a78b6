-- The codes of clerks and of the office.
pub mod Codes
pub mod Drawing
pub mod Faults
pub mod Files
pub mod Making
pub mod RateLimits
