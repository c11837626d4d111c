-- The worked examples, as lists; `proofs/` shows of each that it holds of the definitions.
pub mod Asked
pub mod Bench
pub mod Numbered
pub mod Realigned
pub mod Parts
pub mod Bursts
pub mod Records
