-- `receiver_words::search::turn_among` meets its contract: what is left to search from here is what was to search. Assumes nothing.
use mathlib.Core.Path.{◌≡◌}
use Prim.Native.Nat.{◌-◌}
use Rattle.receiver_words.specs.Search.{turn_from}
use Rattle.receiver_words.proofs.search.turn_among.Given as goal

abbrev pub invariant-loop-i : goal.invariant-loop-i
invariant-loop-i l = turn_from l.receiver l.id l.i (l.n - l.i) ≡ turn_from l.receiver l.id 0 l.n
