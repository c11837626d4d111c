-- The definitions that the promise of `check_stream` cites, what they mean by index, and `Step` for the private functions.
pub mod Rules
pub mod Verdicts
pub mod Written
pub mod Meaning
pub mod Step
