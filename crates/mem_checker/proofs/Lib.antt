pub mod Direction
pub mod Meaning
pub mod Watching
