-- `owned_streams::questions::buffered_amount_low_threshold` meets its contract: the checked call's contract, of the value. Assumes nothing.
use mathlib.Core.Path.{refl}
use Rattle.queue_questions.proofs.Exits.{threshold_told}
use Rattle.linked_streams.proofs.Asks.{threshold_meets}
use Rattle.owned_streams.proofs.Own.{own_findable}
use Rattle.owned_streams.proofs.questions.buffered_amount_low_threshold.Goals as goal

pub stream_of-s-requires : goal.stream_of-s-requires
stream_of-s-requires c = own_findable _ c.requires _

pub returns : goal.returns
returns c = threshold_meets _ _ _ (threshold_told _ _ _ c.stream_of-s.ensures _ refl)
