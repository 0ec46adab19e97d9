-- The queue that words and store stand for, when they are those of a queue, and a call that is the model's. Assumes nothing.
unfoldable pub use Rattle.queue_state.specs.Model.{model}
pub use Rattle.queue_state.specs.Good.{Good}
pub use Rattle.queue_state.specs.Promise.{call_of, number_of, shown, Does}
