-- The laws of the store, for the proofs of this crate and of those above. Assumes nothing.
pub mod Lies
pub mod Steps
pub mod Exits
pub mod Orders
pub mod Packs
pub mod Laws
