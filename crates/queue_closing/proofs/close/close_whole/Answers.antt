use Rattle.queue_closing.specs.Close.{close_whole}
use Rattle.queue_closing.proofs.Exits.{ended_goes, whole_refused}
use Rattle.queue_closing.proofs.close.close_whole.Goals as goal

-- `queue_closing::close::close_whole` meets its contract: each return is a case of `close_whole`. Assumes nothing.
pub sweep_whole-k-requires : goal.sweep_whole-k-requires
sweep_whole-k-requires c = (c.requires, ended_goes _ _ _ _ _ _ _ c.may_sweep-sweeps.ensures c.if-sweeps.true c.remove_stream-stopped.ensures)

pub returns-then-stopped : goal.returns-then-stopped
unfolding close_whole
returns-then-stopped c = rw (← c.may_sweep-sweeps.ensures, c.if-sweeps.true, ← c.remove_stream-stopped.ensures, c.if-stopped.true) c.sweep_whole-k.ensures

pub returns-else-stopped : goal.returns-else-stopped
returns-else-stopped c = whole_refused _ _ _ _ _ _ _ _ c.may_sweep-sweeps.ensures c.if-sweeps.true c.remove_stream-stopped.ensures c.if-stopped.false

pub returns-else-sweeps : goal.returns-else-sweeps
unfolding close_whole
returns-else-sweeps c = rw (← c.may_sweep-sweeps.ensures, c.if-sweeps.false)
