-- `owned_streams::questions::count_streams_ready_to_reset` meets its contract. Assumes nothing.
use Rattle.linked_restarts.proofs.Contracts.{count_meets}
use Rattle.owned_streams.proofs.Own.{count_own}
use Rattle.owned_streams.proofs.questions.count_streams_ready_to_reset.Goals as goal

pub returns : goal.returns
returns c = count_meets _ _ (count_own _ c.requires _ _ c.load_totals-t.ensures c.count_paused.ensures)
