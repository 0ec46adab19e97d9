-- The calls on the streams are the model's steps.
pub mod Stepped
pub mod Sets
pub mod Numbers
pub mod Asks
