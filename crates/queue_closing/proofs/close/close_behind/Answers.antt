use mathlib.Core.Path.{sym, ◌∙◌}
use Rattle.stream_scheduler.proofs.Frames.{untouched_same}
use Rattle.queue_closing.specs.Close.{close_behind}
use Rattle.queue_closing.proofs.Going.{sweep_goes}
use Rattle.queue_closing.proofs.close.close_behind.Goals as goal

-- `queue_closing::close::close_behind` meets its contract: each return is a case of `close_behind`. Assumes nothing.
pub sweep_behind-k-requires : goal.sweep_behind-k-requires
sweep_behind-k-requires c =
    let y = c.requires in
    (y.0, y.1, sweep_goes _ _ _ _ (untouched_same _) (sym c.may_sweep-sweeps.ensures ∙ c.if-sweeps.true))

pub returns-then-sweeps : goal.returns-then-sweeps
unfolding close_behind
returns-then-sweeps c = rw (← c.may_sweep-sweeps.ensures, c.if-sweeps.true) c.sweep_behind-k.ensures

pub returns : goal.returns
unfolding close_behind
returns c = rw (← c.may_sweep-sweeps.ensures, c.if-sweeps.false)
