-- What the handler's owned calls answer, and that each leaves what the next one asks for. Assumes nothing.
pub mod Answers
pub mod Chains
