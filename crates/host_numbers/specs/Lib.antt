-- Numbers that a host gives and is told. Assumes nothing.
pub mod Layout
pub mod Numbers
pub mod Given
