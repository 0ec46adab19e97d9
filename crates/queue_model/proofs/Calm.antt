pub mod Entries
pub mod Calm
pub mod Produce
pub mod Solo
pub mod Reset
pub mod Empty
pub mod Heads
