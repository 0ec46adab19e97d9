-- Restoring an image is the model's step.
pub mod Emptied
pub mod Widths
pub mod Behind
pub mod Grows
pub mod Hangs
pub mod OneRecord
pub mod AllRecords
pub mod Waits
pub mod Recalls
pub mod Unused
pub mod Parts
pub mod Accepts
pub mod Settled
pub mod Answers
pub mod Restores
pub mod Meets
