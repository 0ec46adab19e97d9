-- What the functions' proofs use, and the laws of the log. Assumes nothing.
pub mod Blocks
pub mod Changes
pub mod Exits
pub mod Steps
pub mod Turns
