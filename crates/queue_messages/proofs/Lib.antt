-- What the proofs of several functions use. Assumes nothing.
pub mod Lemmas
pub mod Unstored
pub mod Tested
pub mod Append
