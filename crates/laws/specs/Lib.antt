-- What clerks observe of requests, and what never changes once a ward is sealed.
pub mod Blindness
pub mod Sealed
