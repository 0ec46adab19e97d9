-- `trace_text::payload::sum` meets its contract: the sum goes on from the bytes so far. Assumes nothing.
use mathlib.Core.Path.{◌≡◌}
use Prim.Native.Nat.{◌<◌}
use lib.ListN.{drop}
use Rattle.trace_text.specs.Payload.{sum_from}
use Rattle.trace_text.proofs.payload.sum.Given as goal

abbrev pub invariant-loop-b : goal.invariant-loop-b
invariant-loop-b l = (l.s < 4294967296) × (sum_from l.s (drop l.b-index l.bytes) ≡ sum_from 17 l.bytes)
