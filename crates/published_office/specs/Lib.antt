-- What is published of an office.
pub mod OfficeFolder
