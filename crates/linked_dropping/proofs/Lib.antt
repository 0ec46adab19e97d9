-- Discarding and closing are the model's steps.
pub mod Ends
pub mod Meant
pub mod Discards
pub mod Cleared
pub mod Sweeps
pub mod Walks
pub mod Closed
pub mod Shut
pub mod Closes
pub mod Both
