-- The internals of books, the checks on a stored count, and the parsing of stages: contracts between private functions. No public contract depends on these terms.
pub mod Holdings
pub mod BookInvariants
pub mod Placing
pub mod Resuming
pub mod Reading
