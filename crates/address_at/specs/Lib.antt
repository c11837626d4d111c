-- The address of an iteration by its number, what `address_at` and `overlap` answer, and that both are so by the stepping definition.
pub mod ByNumber
pub mod AddressAt
pub mod Overlap
pub mod Meaning
