-- The definitions that every crate cites: traces as recorded, refusal numbers, and how an answer follows from tables of grounds and rules.
pub mod Tables
pub mod Sequences
pub mod Refusals
pub mod Payloads
pub mod Stream
pub mod Memory
pub mod Judging
pub mod Written
pub mod Numbers
