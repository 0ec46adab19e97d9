-- Document 02, 9/13, "Reset requests to the peer", beside the model's queue. Assumes nothing.
pub mod Wire
pub mod Handler
pub mod Uses
