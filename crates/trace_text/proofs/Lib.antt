pub mod Digits
pub mod Parts
pub mod Reading
pub mod RoundTrip
pub mod Spelling
pub mod Texts
