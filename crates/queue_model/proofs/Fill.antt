pub mod Calls
pub mod Sizes
pub mod Answers
pub mod Lengths
pub mod Refusals
pub mod Request5
pub mod Unbroken
