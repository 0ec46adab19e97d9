-- What the proofs of several functions use. Assumes nothing.
pub mod Choice
pub mod Laws
mod Made
pub mod Parts
pub mod Passing
pub mod Refresh
