-- The folder in which an election is published.
pub mod Election
pub mod Parts
pub mod Links
pub mod Pages
pub mod Results
pub mod CheckPage
pub mod Files
pub mod Sums
pub mod Folder
