-- A flag as a host gives it. Assumes nothing.
pub mod Flag
