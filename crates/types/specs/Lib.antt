pub mod Keys
pub mod Refusal
pub mod Wrap
