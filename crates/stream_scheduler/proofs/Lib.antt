-- What the proofs of several functions use. Assumes nothing.
pub mod Exits
pub mod Ends
pub mod Index
pub mod Search
pub mod Peeks
pub mod Link
pub mod Begins
pub mod Handing
pub mod Worked
pub mod Frames
pub mod BeginsAnew
pub mod Reserved
