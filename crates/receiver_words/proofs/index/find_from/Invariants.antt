-- `receiver_words::index::find_from` meets its contract: what is left to look through from here is what was to look through. Assumes nothing.
use mathlib.Core.Path.{◌≡◌}
use Prim.Native.Nat.{◌-◌}
use Rattle.receiver_words.specs.Index.{find_from}
use Rattle.receiver_words.proofs.index.find_from.Given as goal

abbrev pub invariant-loop : goal.invariant-loop
invariant-loop l = find_from l.receiver l.k l.f l.p (4096 - l.counter) ≡ find_from l.receiver l.k l.f l.head 4096
