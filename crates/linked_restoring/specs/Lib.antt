-- What restoring promises. Assumes nothing.
pub mod Restore
pub mod Settled
