-- Filling a packet is the model's.
pub mod Meaning
