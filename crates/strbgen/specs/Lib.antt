-- What the strobe plan answers and writes, and the bytes that it names.
pub mod Plan
pub mod Bytes
