-- The definitions that the promises of `fifo` cite. Users of the crate need `Queue` and `Promises`; `Ring` and
-- `Memory` are its own affair.
pub mod Queue
pub mod Ring
pub mod Memory
pub mod Promises
pub mod Turn
