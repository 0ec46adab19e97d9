-- The records of an image, and where its message records stand. Assumes nothing.
pub mod Records
pub mod Positions
