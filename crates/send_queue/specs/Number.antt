-- The answer of a question for a number. Assumes nothing.
pub use Rattle.queue_streams.specs.Number.{Number}
pub use Rattle.queue_streams.specs.Number.{Value, Refused}
pub use Rattle.queue_streams.specs.Answers.{as_number}
