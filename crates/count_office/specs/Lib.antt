-- The definitions that the program exports.
pub mod Done
pub mod Screens
pub mod Hosts
pub mod NewCodes
pub mod Serving
pub mod CopyPaths
pub mod Remarks
pub mod SecondWords
pub mod Records
