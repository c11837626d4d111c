-- How many FIFOs a line has, and what reading their places promises.
pub mod Listing
