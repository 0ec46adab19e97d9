-- What restoring an image leaves, for every input. Assumes nothing.
pub mod Restore
