-- Demand 3, and the exact delivery time.
pub mod Demand3
pub mod ExactTime
