use Rattle.queue_closing.specs.Walk.{may_sweep}
use Rattle.queue_closing.proofs.close.may_sweep.Goals as goal

-- `queue_closing::close::may_sweep` meets its contract: each return is what its definition says, by what the calls ensure and the tests taken. Assumes nothing.
pub returns-then-w : goal.returns-then-w
unfolding may_sweep
returns-then-w c =
    rw (
      ← c.load_totals-t.ensures,
      ← c.walk_chain-w.ensures,
      c.if-w.true,
    )

pub returns : goal.returns
unfolding may_sweep
returns c =
    rw (
      ← c.load_totals-t.ensures,
      ← c.walk_chain-w.ensures,
      c.if-w.false,
    )
