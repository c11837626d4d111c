-- Laws that belong to no one function. Users of the crate need `Depths`, `Held`, `Stepping`, `Lending` and `Some`.
pub mod Depths
pub mod Places
pub mod Slots
pub mod Filled
pub mod Form
pub mod LentSlots
pub mod Strobes
pub mod Held
pub mod Stepping
pub mod Turning
pub mod Lending
pub mod Some
