-- What holds while places are read.
pub mod Reading
