pub mod Bytes
pub mod Joining
pub mod Padded
pub mod Leading
pub mod Taken
pub mod Answers
pub mod Undone
