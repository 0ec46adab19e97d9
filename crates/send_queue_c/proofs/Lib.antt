-- What the proofs of several functions use. Assumes nothing.
pub mod Gives
