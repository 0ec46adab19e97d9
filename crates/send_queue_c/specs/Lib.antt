-- Answers as numbers, for a host in C or Rust. Assumes nothing.
pub mod Numbers
pub mod Chunks
pub mod Given
