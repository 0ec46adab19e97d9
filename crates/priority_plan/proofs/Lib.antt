-- The least set, what it does in runs of the model, and the loops of the code. Assumes nothing.
pub mod LeastSet
pub mod Answer
pub mod Loops
pub mod Lasting
pub mod Sends
pub mod More
pub mod Turns
pub mod Loading
pub mod Request
pub mod Live
pub mod Only
pub mod OwnJob
