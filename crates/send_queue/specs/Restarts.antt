-- The contracts of the calls that restart streams. Assumes nothing.
pub use Rattle.linked_restarts.specs.Ids.{ids_of, ready_of, Readies}
pub use Rattle.linked_restarts.specs.Promises.{CommitMeets, RollbackMeets, ResetMeets, ReadyMeets, CountMeets}
