-- What the tests before accepting say, one turn of each loop, for the proofs of this crate's functions. Assumes nothing.
pub mod Admits
pub mod Steps
