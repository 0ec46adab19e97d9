-- `trace_text::payload::fill` meets its contract: the bytes so far and the bytes still to come are the payload. Assumes nothing.
use mathlib.Core.Path.{◌≡◌}
use mathlib.Core.List.{◌++◌}
use Prim.Native.Nat.{◌-◌, ◌%◌, ◌<◌}
use lib.ListN.{length, take}
use Rattle.trace_text.specs.Payload.{bytes_from}
use Rattle.trace_text.proofs.payload.fill.Given as goal

abbrev pub invariant-loop-i : goal.invariant-loop-i
invariant-loop-i l = (l.x < 2147483648) × (take l.i l.payload ++ bytes_from l.x (length l.initial.payload - l.i) ≡ bytes_from (l.seed % 2147483648) (length l.initial.payload))
