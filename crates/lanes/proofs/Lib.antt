-- Laws of lanes, their strobes, and what is refused.
pub mod PerLane
pub mod Digits
pub mod Used
pub mod Answers
pub mod Wired
pub mod Keeping
pub mod Waiting
pub mod Examples
