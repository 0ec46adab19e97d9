-- `queue_streams::waiting::tally_all` meets its contract: the tally of the first i streams, with at most one row more for each. Assumes nothing.
use mathlib.Core.Path.{◌≡◌}
use Prim.Native.Nat.{◌+◌, ◌≤◌}
use Rattle.queue_streams.specs.Waiting.{tally}
use Rattle.queue_streams.proofs.waiting.tally_all.Given as goal

-- `queue_streams::waiting::tally_all` meets its contract: the tally of the first i streams, with at most one row more for each. Assumes nothing.
abbrev pub invariant-loop-i : goal.invariant-loop-i
invariant-loop-i l = (l.t ≡ tally l.queue l.all l.i) × (l.t.rows ≤ 256 + l.i)
