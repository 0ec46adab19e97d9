-- What the words of a receiver stand for, and what the calls promise on them. Assumes nothing.
pub mod Rows
pub mod Kept
pub mod Good
pub mod Promise
pub mod Receives
pub mod Fetches
