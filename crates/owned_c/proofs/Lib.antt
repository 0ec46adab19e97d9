-- What a call gives. Assumes nothing.
pub mod Gives
