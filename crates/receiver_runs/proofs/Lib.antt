-- The receiving head's calls one after another, and request 7/13 on the code.
pub mod Came
pub mod Receives
pub mod Runs
pub mod Sender
pub mod Chunks
pub mod Request7
pub mod Kept
pub mod Safety
pub mod SafeSent
