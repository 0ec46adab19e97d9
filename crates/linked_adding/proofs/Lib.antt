-- Creating a queue and adding a message are the model's steps.
pub mod Freed
pub mod Creates
pub mod Placed
pub mod Hung
pub mod Appends
pub mod Begins
pub mod Joins
pub mod Passes
pub mod Refuses
pub mod Adds
pub mod Fitting
pub mod Meets
pub mod Settled
