-- Two messages through a queue: what the model does, and that the calls do it. Assumes nothing.
pub mod Hands
pub mod Steps
pub mod Carries
