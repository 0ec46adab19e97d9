-- The laws of the words, for the proofs of this crate and of those above. Assumes nothing.
pub mod Rows
pub mod NumberLaws
pub mod Laws
pub mod ChainLaws
pub mod Finds
