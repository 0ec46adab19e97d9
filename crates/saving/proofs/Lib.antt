-- Laws of the first pass, of the bytes, and of writing part by part. Assumes nothing.
pub mod Passing
pub mod Lengths
pub mod Rests
pub mod Loops
pub mod Passed
pub mod Images
pub mod Givens
