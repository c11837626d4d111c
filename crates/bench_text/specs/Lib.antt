-- The report of a text and what `report` promises; and the room that a program needs.
pub mod Report
pub mod Room
