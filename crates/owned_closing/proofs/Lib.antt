-- Discarding and closing without the tests for 16. Assumes nothing.
pub mod Own
pub mod Closes
