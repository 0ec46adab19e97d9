-- What the words and the store stand for, when they are good, and what a call promises. Assumes nothing.
pub mod Chains
pub mod Model
pub mod Good
pub mod Promise
