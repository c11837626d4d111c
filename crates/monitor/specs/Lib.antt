-- The definitions that the promises of a monitor cite, the three theorems about them, and `Step` for the private functions.
pub mod Record
pub mod Cycle
pub mod Bursts
pub mod Theorems
pub mod Step
