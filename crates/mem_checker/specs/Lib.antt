-- The definitions that the promises of `check_mem` and `check_mem_decoupled` cite, what they mean by index, and `Step` and `Laws` for the
-- private functions.
pub mod Rules
pub mod Verdicts
pub mod Written
pub mod Meaning
pub mod Step
pub mod Laws
