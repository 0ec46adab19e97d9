pub mod Entries
pub mod Starts
pub mod Steps
pub mod Theorem
pub mod Seen
pub mod Lifetimes
pub mod Tight
