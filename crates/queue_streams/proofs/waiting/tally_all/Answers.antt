-- `queue_streams::waiting::tally_all` meets its contract: the tally of the first i streams, with at most one row more for each. Assumes nothing.
use native.Mathlib.Omega.{arith}
use Rattle.queue_streams.proofs.Waits.{tally_start, tally_next, tally_rows}
use Rattle.queue_streams.proofs.waiting.tally_all.Goals as goal

pub loop-i-init : goal.loop-i-init
loop-i-init c = (tally_start _ _ _ c.requires.2, omega (arith, c.requires.1))

pub loop-i-preserved : goal.loop-i-preserved
loop-i-preserved c = (tally_next _ _ _ _ _ _ c.loop-i.invariant.0 c.load_known-k.ensures c.tally_known-t.ensures, tally_rows _ _ _ _ _ _ c.loop-i.invariant.1 c.tally_known-t.ensures)
