-- What the next fragment of an owned queue asks and promises. Assumes nothing.
pub mod Passing
pub mod Produce
