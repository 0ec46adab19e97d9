use mathlib.Core.Path.{sym, ◌∙◌}
use mathlib.Core.Bool.{true, false}
use Rattle.queue_streams.proofs.Restarts.{room_fits}
use Rattle.queue_restarts.proofs.Resets.{sum_told, reset_done, reset_over, reset_roomless}
use Rattle.queue_restarts.proofs.whole.reset.Goals as goal

-- `queue_restarts::whole::reset` meets its contract: each return is a case of `reset_queue` (proofs/Resets.antt). Assumes nothing.
pub sum_all-sum-requires : goal.sum_all-sum-requires
sum_all-sum-requires c =
    room_fits _ _ _ _ c.room_for-room.ensures c.if-room.true
    c.load_totals-t.ensures

pub returns-then-sum : goal.returns-then-sum
returns-then-sum c =
    reset_done _ _ _ c.load_totals-t.ensures c.sum_all-sum.ensures _
    (sym c.room_for-room.ensures ∙ c.if-room.true)
    (sum_told _ _ _ c.load_totals-t.ensures c.sum_all-sum.ensures true c.if-sum.true)
    c.reset_to.ensures

pub returns-else-sum : goal.returns-else-sum
returns-else-sum c =
    reset_over _ (sym c.room_for-room.ensures ∙ c.if-room.true)
    (sum_told _ _ _ c.load_totals-t.ensures c.sum_all-sum.ensures false c.if-sum.false)

pub returns-else-room : goal.returns-else-room
returns-else-room c = reset_roomless _ (sym c.room_for-room.ensures ∙ c.if-room.false)
