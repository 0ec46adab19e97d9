-- Calls in a row. Assumes nothing.
pub mod Chained
