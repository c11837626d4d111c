-- What the exported functions promise: the lower crates' promises, with document 01's numbers in place of enums.
pub mod Numbers
pub mod Verdicts
pub mod Judged
pub mod Fifos
pub mod Chains
pub mod Lanes
pub mod Buffers
pub mod Addresses
pub mod Fields
