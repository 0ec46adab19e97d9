-- Numbers in bytes. Assumes nothing.
pub mod Numbers
