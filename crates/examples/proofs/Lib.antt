-- The claims about the lists of `specs/`, one file for each.
pub mod Bench
pub mod Numbered
pub mod Realigned
pub mod Bursts
pub mod Records
