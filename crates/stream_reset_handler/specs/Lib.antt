-- What the stream reset handler promises. Of the queue it names the published contracts alone (scripts/published-only). Assumes nothing.
pub mod Handler
pub mod Making
pub mod Receiving
pub mod Underway
pub mod RequestAnswer
pub mod MadeRequest
pub mod ResponseAnswer
pub mod HandledResponse
pub mod QueueReset
pub mod Answers
