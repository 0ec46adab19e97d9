-- `owned_streams::questions::has_data_to_send` meets its contract: the scheduler has a row exactly where a stream waits. Assumes nothing.
use Rattle.linked_streams.proofs.Asks.{data_meets}
use Rattle.owned_streams.proofs.Own.{data_own}
use Rattle.owned_streams.proofs.questions.has_data_to_send.Goals as goal

pub returns : goal.returns
returns c = data_meets _ _ (data_own _ c.requires _ c.load_scheduler_state-s.ensures)
