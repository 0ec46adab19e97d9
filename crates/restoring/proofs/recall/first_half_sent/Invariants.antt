-- `restoring::recall::first_half_sent` meets its contract: what is asked is which of the streams from position i on is the first. Assumes nothing.
use mathlib.Core.Path.{◌≡◌}
use Prim.Native.Nat.{◌-◌}
use Rattle.restoring.specs.Recall.{first_half_sent_words}
use Rattle.restoring.proofs.recall.first_half_sent.Given as goal

abbrev pub invariant-loop-i : goal.invariant-loop-i
invariant-loop-i l = first_half_sent_words l.queue 0 l.n ≡ first_half_sent_words l.queue l.i (l.n - l.i)
