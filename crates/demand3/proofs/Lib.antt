-- The proofs of demand 3 and of the exact delivery time, then both at work on examples.
pub mod Order
pub mod Falls
pub mod Ledger
pub mod Outlet
pub mod Bytes
pub mod Answers
pub mod Demand3
pub mod ExactTime
pub mod Examples
pub mod TimeExamples
