-- Demand 2 on images, on the words and stores that the calls leave. Assumes nothing.
pub mod Demand2
pub mod Unbroken
pub mod Refusals
pub mod Numbers
