-- `trace_text::parse::parse` is safe and ends. Assumes nothing.
use Prim.Native.Nat.{◌-◌, ◌<◌}
use Rattle.trace_text.proofs.parse.parse.Given as goal

abbrev pub invariant-loop-at : goal.invariant-loop-at
invariant-loop-at l = l.k < l.at

abbrev pub decreases-loop-at : goal.decreases-loop-at
decreases-loop-at l = l.end - l.at
