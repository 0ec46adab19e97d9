-- What the next fragment means. Assumes nothing.
pub mod Meaning
pub mod Settled
