-- `queue_streams::commit::all_quiet` meets its contract: what is asked is whether all from position i on are quiet. Assumes nothing.
use native.Mathlib.Omega.{arith}
use Rattle.queue_streams.proofs.Commits.{quiet_far, quiet_not, quiet_next, quiet_end}
use Rattle.queue_streams.proofs.commit.all_quiet.Goals as goal

pub returns-then-k-n : goal.returns-then-k-n
returns-then-k-n c = quiet_far _ _ _ c.loop-i.invariant (omega arith) _ c.load_known-k.ensures c.if-k-n.true

pub loop-i-preserved : goal.loop-i-preserved
loop-i-preserved c = quiet_next _ _ _ c.loop-i.invariant (omega arith) _ c.load_known-k.ensures c.if-k-n.false _ c.load_stream-s.ensures _ c.is_quiet-quiet.ensures c.if-not-quiet.false

pub returns-then-not-quiet : goal.returns-then-not-quiet
returns-then-not-quiet c = quiet_not _ _ _ c.loop-i.invariant (omega arith) _ c.load_known-k.ensures c.if-k-n.false _ c.load_stream-s.ensures _ c.is_quiet-quiet.ensures c.if-not-quiet.true

pub returns : goal.returns
returns c = quiet_end _ _ _ c.loop-i.invariant (omega arith)
