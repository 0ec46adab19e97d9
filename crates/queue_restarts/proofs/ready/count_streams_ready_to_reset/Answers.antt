use Rattle.std.proofs.Common.{refl}
use Rattle.std.proofs.lemmas.Result.{err_from_is_err_and}
use Rattle.queue_restarts.proofs.Loops.{count_many, count_value, count_refused}
use Rattle.queue_restarts.proofs.ready.count_streams_ready_to_reset.Goals as goal

-- `queue_restarts::ready::count_streams_ready_to_reset` meets its contract: each return is a case of `ready_count` (proofs/Loops.antt). Assumes nothing.
pub returns-then-t-gt-STREAMS : goal.returns-then-t-gt-STREAMS
returns-then-t-gt-STREAMS c = count_many _ _ c.load_totals-t.ensures c.if-t-gt-STREAMS.true

pub returns-in_err-r : goal.returns-in_err-r
returns-in_err-r c =
    let p = err_from_is_err_and c.from_residual.result c.from_residual.ensures.1 in
    rw (p.1, p.2) (count_refused _ _ c.load_totals-t.ensures c.if-t-gt-STREAMS.false _ c.in_err-r.ensures _ refl)

pub returns : goal.returns
returns c =
    count_value _ _ c.load_totals-t.ensures c.if-t-gt-STREAMS.false _ c.in_ok-r.ensures _ refl
