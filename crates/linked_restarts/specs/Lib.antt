-- What the calls that restart streams promise. Assumes nothing.
pub mod Ids
pub mod Promises
