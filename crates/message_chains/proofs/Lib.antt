-- What the proofs of several functions use. Assumes nothing.
pub mod Lemmas
pub mod Goes
pub mod Own
