-- What the proofs of several functions use. Assumes nothing.
pub mod Loops
pub mod Few
pub mod Settled
pub mod Resets
pub mod MarkLaws
