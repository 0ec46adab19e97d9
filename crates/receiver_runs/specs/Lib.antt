-- The receiving head's calls one after another, what they mean, and request 7/13 on the code. Assumes nothing.
pub mod Calls
pub mod Run
pub mod Meaning
pub mod Sender
pub mod Promise
pub mod Safety
