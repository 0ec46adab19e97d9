-- `receiver_words::index::row_before` meets its contract: what is left to look through from here is what was to look through. Assumes nothing.
use mathlib.Core.Path.{◌≡◌}
use Prim.Native.Nat.{◌-◌}
use Rattle.receiver_words.specs.Index.{before_from}
use Rattle.receiver_words.proofs.index.row_before.Given as goal

abbrev pub invariant-loop : goal.invariant-loop
invariant-loop l = before_from l.receiver l.k l.i l.p (4096 - l.counter) ≡ before_from l.receiver l.k l.i l.head 4096
