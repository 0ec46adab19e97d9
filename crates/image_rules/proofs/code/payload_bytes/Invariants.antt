-- `image_rules::code::payload_bytes` meets its contract: the sum so far and the bytes of the records from the i-th on are all. Assumes nothing.
use mathlib.Core.Path.{◌≡◌}
use Prim.Native.Nat.{◌+◌, ◌*◌, ◌≤◌, ◌-◌}
use lib.ListN.{length}
use Rattle.image_rules.specs.Amounts.{payload_bytes_words}
use Rattle.image_rules.proofs.Loops.{Lies}
use Rattle.image_rules.proofs.code.payload_bytes.Given as goal

abbrev pub invariant-loop-i : goal.invariant-loop-i
invariant-loop-i l =
    (l.sum ≤ l.i * 4294967295) × (payload_bytes_words l.image l.start l.n ≡ l.sum + payload_bytes_words l.image l.at (l.n - l.i)) × Lies l.image (length l.image) l.at (l.n - l.i)
