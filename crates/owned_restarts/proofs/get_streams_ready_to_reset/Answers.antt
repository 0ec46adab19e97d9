-- `owned_restarts::get_streams_ready_to_reset` meets its contract. Assumes nothing.
use Rattle.linked_restarts.proofs.Contracts.{ready_meets}
use Rattle.owned_restarts.proofs.Own.{own_ready}
use Rattle.owned_restarts.proofs.get_streams_ready_to_reset.Goals as goal

pub returns : goal.returns
returns c = ready_meets _ _ _ (own_ready _ c.requires _ _ c.load_totals-t.ensures c.take_paused.ensures)
