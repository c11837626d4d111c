-- The definitions that the promises of `chain` cite, in the order in which they build on one another.
pub mod Line
pub mod Cycles
pub mod Calls
pub mod Timing
pub mod Promises
pub mod Cycling
