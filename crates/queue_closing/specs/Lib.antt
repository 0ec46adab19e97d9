-- What closing a stream leaves, for every input. Assumes nothing.
pub mod Walk
pub mod Sweep
pub mod Close
