-- What the marks are. Assumes nothing.
pub mod Marks
