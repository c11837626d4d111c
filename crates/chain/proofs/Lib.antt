-- Laws that belong to no one function.
pub mod Used
pub mod Walk
pub mod Promising
pub mod Tracing
pub mod Need
pub mod Timing
pub mod Bytes
pub mod Pass
