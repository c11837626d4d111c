-- The form of a text and what `parse` promises; what the answers mean; and `Parts` for the private functions.
pub mod Digits
pub mod Form
pub mod Parsing
pub mod RoundTrip
pub mod Parts
