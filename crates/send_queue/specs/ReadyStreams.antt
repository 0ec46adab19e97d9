-- The answer of the call for ready ids. Assumes nothing.
pub use Rattle.queue_restarts.specs.ReadyStreams.{ReadyStreams}
pub use Rattle.queue_restarts.specs.Ready.{as_ready}
