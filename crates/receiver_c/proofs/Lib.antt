-- What a call promises of the words, told as numbers, for the proofs of this crate's functions. Assumes nothing.
pub mod Gives
