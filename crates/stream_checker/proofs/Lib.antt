pub mod Clears
pub mod Counters
pub mod Follows
pub mod Judged
pub mod Meaning
pub mod Strobes
