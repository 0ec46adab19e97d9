-- The pieces have what the first i rows reach, and `left` bytes are left for the others.
use Rattle.std.proofs.Common.{◌≡◌}
use Rattle.payload_store.specs.Searching.{left_to, reach_to}
use Rattle.payload_store.proofs.searching.reach_all.Given as goal

abbrev pub invariant-loop-i : goal.invariant-loop-i
invariant-loop-i l = (l.reach ≡ reach_to l.queue l.used l.i) × (l.left ≡ left_to l.queue l.used l.i)
