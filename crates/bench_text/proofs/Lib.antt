pub mod BreachLines
pub mod DecidedEarly
pub mod Digits
pub mod NumbersFit
pub mod Reporting
pub mod WholeCase
