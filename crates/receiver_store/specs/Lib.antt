-- The definitions that the contracts cite: the words used, moving together, room and putting, reading, dropping; the invariant and what the calls
-- promise. Assumes nothing.
pub mod Words
pub mod Packing
pub mod Putting
pub mod Reading
pub mod Dropping
pub mod Good
pub mod Promise
