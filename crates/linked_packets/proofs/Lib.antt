-- Filling a packet is the model's.
pub mod Chunk
pub mod Calls
pub mod Numbers
pub mod Fills
