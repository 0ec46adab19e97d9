-- `trace_answers::marks::bytes_marked` meets its contract: without strays each byte passed has its mark. Assumes nothing.
use mathlib.Core.Path.{◌≡◌}
use Prim.Native.Nat.{ℕ, ◌≤◌, ◌<◌}
use lib.ListN.{get_or}
use Rattle.trace_answers.specs.Marks.{byte_mark}
use Rattle.trace_answers.proofs.marks.bytes_marked.Given as goal

abbrev pub invariant-loop-i : goal.invariant-loop-i
invariant-loop-i l = l.strays ≡ 0 → (k : ℕ) → k < l.i → l.from ≤ k → get_or l.buffer k 0 ≡ byte_mark k
