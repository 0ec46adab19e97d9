-- `owned_streams::questions::has_streams_ready_to_be_reset` meets its contract. Assumes nothing.
use Rattle.linked_streams.proofs.Asks.{ready_meets}
use Rattle.owned_streams.proofs.Own.{ready_own}
use Rattle.owned_streams.proofs.questions.has_streams_ready_to_be_reset.Goals as goal

pub returns : goal.returns
returns c = ready_meets _ _ (ready_own _ c.requires _ _ c.load_totals-t.ensures c.any_paused.ensures)
