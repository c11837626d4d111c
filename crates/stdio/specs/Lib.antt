-- What can be promised of reading and writing.
pub mod Moving
pub mod Calls
