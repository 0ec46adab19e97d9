-- What the owned questions and settings ask for and answer. Assumes nothing.
pub mod Own
pub mod Settings
