-- The answer of most calls. Assumes nothing.
pub use Rattle.queue_streams.specs.Call.{Call}
pub use Rattle.queue_streams.specs.Call.{Accepted, Refused}
pub use Rattle.queue_streams.specs.Answers.{as_call}
