-- Saving is the model's: the pass finds good words sound, the bytes are the model's. Assumes nothing.
pub mod Sounds
pub mod Messages
pub mod Records
pub mod Saves
