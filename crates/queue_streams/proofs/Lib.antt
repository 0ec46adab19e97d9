-- What the proofs of several functions use. Assumes nothing.
pub mod Exits
pub mod Beside
pub mod Waits
pub mod Restarts
pub mod Commits
pub mod Walk
pub mod Settled
