-- What the calls on the streams promise. Assumes nothing.
pub mod Settings
pub mod Questions
