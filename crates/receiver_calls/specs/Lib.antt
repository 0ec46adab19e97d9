-- The definition that the contract of receiving cites, the answers as numbers, and what is promised of refused calls. Assumes nothing.
pub mod Receiving
pub mod Answers
pub mod Promise
