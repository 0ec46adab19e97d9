-- What the proofs of the loops use. Assumes nothing.
pub mod Payloads
