-- The contracts of the calls that restart streams determine what the calls give. Assumes nothing.
pub use Rattle.linked_restarts.proofs.Contracts.{Same, count_same, ready_same, call_same}
