-- All calls of the queue but saving and restoring, passed on from the files that define them. Assumes nothing.
pub use Rattle.queue_model.specs.Types.{Message, Packet}
pub use Rattle.queue_model.specs.Questions.{Room}
unfoldable pub use Rattle.queue_model.specs.Streams.{new_queue}
unfoldable pub use Rattle.queue_model.specs.Refusals.{create_refusal}
unfoldable pub use Rattle.queue_model.specs.Add.{add}
unfoldable pub use Rattle.queue_model.specs.Produce.{produce}
unfoldable pub use Rattle.queue_model.specs.Fill.{fill}
unfoldable pub use Rattle.queue_model.specs.Discard.{discard}
unfoldable pub use Rattle.queue_model.specs.Close.{close}
unfoldable pub use Rattle.queue_model.specs.Reset.{ready_ids, commit, rollback, reset}
unfoldable pub use Rattle.queue_model.specs.Settings.{set_threshold, set_priority, set_interleaving}
unfoldable pub use Rattle.queue_model.specs.Questions.{priority_of, amount_of, threshold_of, is_empty, has_data, streams_ready, ready_count, readiness, room_of}
