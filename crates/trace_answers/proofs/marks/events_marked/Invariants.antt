-- `trace_answers::marks::events_marked` meets its contract: each word passed has its mark. Assumes nothing.
use mathlib.Core.Path.{◌≡◌}
use Prim.Native.Nat.{ℕ, ◌≤◌, ◌<◌}
use lib.ListN.{get_or}
use Rattle.trace_answers.specs.Marks.{event_mark}
use Rattle.trace_answers.proofs.marks.events_marked.Given as goal

abbrev pub invariant-loop-i : goal.invariant-loop-i
invariant-loop-i l = (k : ℕ) → k < l.i → l.from ≤ k → get_or l.events k 0 ≡ event_mark k
