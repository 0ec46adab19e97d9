-- `image_rules::code::move_on` meets its contract: the place from k on is the place from the start on. Assumes nothing.
use mathlib.Core.Path.{◌≡◌}
use Rattle.image_rules.specs.Cursor.{moved_on_words}
use Rattle.image_rules.proofs.code.move_on.Given as goal

abbrev pub invariant-loop-k : goal.invariant-loop-k
invariant-loop-k l = moved_on_words l.image l.records l.from l.id ≡ moved_on_words l.image l.records l.k l.id
