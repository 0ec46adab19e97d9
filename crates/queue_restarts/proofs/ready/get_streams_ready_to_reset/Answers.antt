use Rattle.std.proofs.Common.{refl}
use Rattle.std.proofs.lemmas.Result.{err_from_is_err_and}
use Rattle.queue_restarts.proofs.Loops.{ready_many, ready_all, ready_not}
use Rattle.queue_restarts.proofs.ready.get_streams_ready_to_reset.Goals as goal

-- `queue_restarts::ready::get_streams_ready_to_reset` meets its contract: each return is what its definition says, by what the calls ensure and the tests taken. Assumes nothing.
pub returns-then-t-gt-STREAMS : goal.returns-then-t-gt-STREAMS
returns-then-t-gt-STREAMS c =
    ready_many _ _ c.load_totals-t.ensures _ c.if-t-gt-STREAMS.true refl

pub returns-in_err-r : goal.returns-in_err-r
returns-in_err-r c =
    let p = err_from_is_err_and c.from_residual.result c.from_residual.ensures.1 in
    rw (p.1, p.2) (ready_not _ _ c.load_totals-t.ensures c.if-t-gt-STREAMS.false _ c.in_err-r.ensures _ refl refl)

pub returns : goal.returns
returns c =
    ready_all _ _ c.load_totals-t.ensures c.if-t-gt-STREAMS.false _ c.in_ok-r.ensures _ refl _ refl c.mark_all.ensures
