pub mod Streams
pub mod Clients
pub mod Removals
pub mod Closing
pub mod Traces
pub mod Tables
