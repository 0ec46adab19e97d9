-- Row k's id is below, or what is left are those behind it.
use Rattle.std.proofs.Common.{sym, ◌∙◌}
use Rattle.active_table.proofs.Passing.{one_below, one_behind, four_end}
use Rattle.active_table.proofs.ids_behind_in_four.Goals as goal

pub returns-then-not-ids_behind_in : goal.returns-then-not-ids_behind_in
returns-then-not-ids_behind_in c = one_below _ _ _ _ _ c.loop-k-test.true c.ids_behind_in.ensures c.if-not-ids_behind_in.true ∙ sym c.loop-k.invariant

pub loop-k-preserved : goal.loop-k-preserved
loop-k-preserved c = c.loop-k.invariant ∙ one_behind _ _ _ _ _ c.loop-k-test.true c.ids_behind_in.ensures c.if-not-ids_behind_in.false

pub returns : goal.returns
returns c = four_end _ _ _ _ c.loop-k.invariant c.loop-k-test.false
