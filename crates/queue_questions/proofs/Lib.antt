-- What the proofs of several questions use. Assumes nothing.
pub mod Exits
