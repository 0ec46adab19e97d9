pub mod Groups
pub mod Parts
pub mod Passing
pub mod Rows
