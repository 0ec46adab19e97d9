-- One turn of each loop, and what the searches for a neighbour answer, for the proofs of this crate's functions. Assumes nothing.
pub mod Steps
pub mod Exits
pub mod Beside
