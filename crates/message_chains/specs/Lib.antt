-- What taking a message off its chain leaves, and what it reports, for every input. Assumes nothing.
pub mod Amounts
pub mod Notes
pub mod Numbers
pub mod Heads
pub mod Dropping
