-- Laws of numbers in bytes, of rows of them, and of lent bytes. Assumes nothing.
pub mod Halves
pub mod Rows
pub mod Typed
