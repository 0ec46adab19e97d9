-- `receiver_words::creation::clear_buckets` meets its contract: after i turns the first i rows are filled. Assumes nothing.
use mathlib.Core.Path.{◌≡◌}
use Rattle.receiver_words.specs.Tables.{Buckets}
use Rattle.receiver_words.specs.Creation.{fill_to}
use Rattle.receiver_words.proofs.creation.clear_buckets.Given as goal

abbrev pub invariant-loop-i : goal.invariant-loop-i
invariant-loop-i l = l.receiver ≡ fill_to Buckets l.initial.receiver l.k 4096 l.i
