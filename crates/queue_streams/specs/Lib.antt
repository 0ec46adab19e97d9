-- What the calls on the streams leave, for every input. Assumes nothing.
pub mod Answers
pub mod Call
pub mod Flag
pub mod Number
pub mod Place
pub mod Events
pub mod Known
pub mod Settings
pub mod Waiting
pub mod Restart
pub mod Commit
pub mod Settled
pub mod Owned
