-- `linked_restarts::commit_reset_streams` meets its contract: what the call promises of the words implies the rest (proofs/Contracts.antt). Assumes nothing.
use Rattle.linked_restarts.proofs.Contracts.{commit_meets}
use Rattle.linked_restarts.proofs.commit_reset_streams.Goals as goal

pub returns : goal.returns
returns c = commit_meets _ _ _ c.commit_reset_streams.ensures
