-- Words and their bytes, what `realign_source` and `realign_sink` answer, and that each undoes the other.
pub mod Bytes
pub mod Sink
pub mod Source
pub mod Meaning
pub mod From
