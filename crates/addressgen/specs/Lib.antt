-- How the address generator steps, which stores overwrite themselves, what a run answers, what follows from that for several runs, and
-- what the refusal of a store means.
pub mod Stepping
pub mod Overwriting
pub mod Run
pub mod Resuming
pub mod Meaning
