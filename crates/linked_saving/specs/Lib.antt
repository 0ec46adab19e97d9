-- What saving promises. Assumes nothing.
pub mod Meaning
