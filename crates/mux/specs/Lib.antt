-- What the fixed-select mux answers.
pub mod Mux
