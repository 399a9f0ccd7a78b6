-- The law of the count, and how a book advances. How a book stores its papers concerns only its own functions.
pub mod Law
pub mod Actions
pub mod Advance
pub mod Bundles
pub mod Books
pub mod StoredCounts
pub mod Marks
pub mod Inside
