pub mod Table
pub mod Given
pub mod Filled
pub mod Bytes
