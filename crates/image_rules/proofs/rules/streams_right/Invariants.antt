-- `image_rules::rules::streams_right` meets its contract: what is asked is whether the records from the i-th on keep the rules. Assumes nothing.
use mathlib.Core.Path.{◌≡◌}
use Prim.Native.Nat.{◌-◌, ◌*◌}
use Rattle.image_rules.specs.Streams.{streams_right_words}
use Rattle.image_rules.proofs.rules.streams_right.Given as goal

abbrev pub invariant-loop-i : goal.invariant-loop-i
invariant-loop-i l = streams_right_words l.image l.d 0 0 l.n ≡ streams_right_words l.image l.d (14 * l.i) l.least (l.n - l.i)
