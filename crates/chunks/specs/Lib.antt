-- Chunks on the wire: their bytes, what a chunk carries, what writing leaves, what reading answers, what is promised. Assumes nothing.
pub mod ChunkRead
pub mod ChunkWritten
pub mod Answers
pub mod Layout
pub mod Carried
pub mod Writing
pub mod Reading
pub mod Promise
