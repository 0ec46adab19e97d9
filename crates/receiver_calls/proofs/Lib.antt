-- Where the payload of a chunk lies, and the way out with it, for the proofs of this crate's functions; what refused calls leave. Assumes nothing.
pub mod Inside
pub mod Exits
pub mod Refusals
