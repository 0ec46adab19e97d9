-- `receiver_words::chains::free_all` meets its contract: after i turns the first i rows are free. Assumes nothing.
use mathlib.Core.Path.{◌≡◌}
use Rattle.receiver_words.specs.Chains.{free_to}
use Rattle.receiver_words.proofs.chains.free_all.Given as goal

abbrev pub invariant-loop-i : goal.invariant-loop-i
invariant-loop-i l = l.receiver ≡ free_to l.initial.receiver l.i
