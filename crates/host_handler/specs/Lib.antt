-- The stream reset handler in numbers. Assumes nothing.
pub mod Handler
