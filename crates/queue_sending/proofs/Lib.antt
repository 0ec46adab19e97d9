-- What the proofs of several functions use, and what holds of the call: a refused one changes nothing. Assumes nothing.
pub mod Counts
pub mod Passes
pub mod Logged
pub mod Nexts
pub mod Ahead
pub mod ProgressLaws
