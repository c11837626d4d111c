pub mod NumbersBelow
pub mod Blocks
pub mod Answers
pub mod Stepped
pub mod AsStepped
