-- The definitions that the contracts cite: the words used, gaps, moving together, searching, putting, reading, dropping; the invariant and what the
-- calls promise. Assumes nothing.
pub mod Words
pub mod Gaps
pub mod Searching
pub mod Moving
pub mod Putting
pub mod Good
pub mod Reading
pub mod Dropping
pub mod Promise
