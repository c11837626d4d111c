-- What `merge` and `split` promise, and what follows from it for streams.
pub mod Lanes
pub mod Answers
pub mod Offers
pub mod Wide
pub mod Merge
pub mod Split
pub mod Wired
pub mod Keeping
pub mod Waiting
