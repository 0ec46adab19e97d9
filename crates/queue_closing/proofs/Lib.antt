-- What the proofs of several functions use. Assumes nothing.
pub mod Loops
pub mod Going
pub mod Exits
