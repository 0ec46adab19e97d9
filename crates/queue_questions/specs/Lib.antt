-- What the questions answer, for every input. Assumes nothing.
pub mod Looked
pub mod Questions
