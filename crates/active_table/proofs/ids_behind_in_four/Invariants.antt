-- The answer is that of the rows from k on.
use Rattle.std.proofs.Common.{◌≡◌, ◌-◌}
use Rattle.active_table.specs.Parts.{rows_from}
use Rattle.active_table.specs.Passing.{ids_behind_words}
use Rattle.active_table.proofs.ids_behind_in_four.Given as goal

abbrev pub invariant-loop-k : goal.invariant-loop-k
invariant-loop-k l = ids_behind_words (rows_from l.queue l.from) l.id 0 4 ≡ ids_behind_words (rows_from l.queue l.from) l.id l.k (4 - l.k)
