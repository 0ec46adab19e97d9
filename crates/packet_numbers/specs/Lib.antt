-- Packets as numbers, for a host in C or Rust. Assumes nothing.
pub mod Packets
