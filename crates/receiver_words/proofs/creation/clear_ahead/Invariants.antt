-- `receiver_words::creation::clear_ahead` meets its contract: after i turns the first i rows are filled. Assumes nothing.
use mathlib.Core.Path.{◌≡◌}
use Rattle.receiver_words.specs.Tables.{Ahead}
use Rattle.receiver_words.specs.Creation.{fill_to}
use Rattle.receiver_words.proofs.creation.clear_ahead.Given as goal

abbrev pub invariant-loop-i : goal.invariant-loop-i
invariant-loop-i l = l.receiver ≡ fill_to Ahead l.initial.receiver 0 0 l.i
