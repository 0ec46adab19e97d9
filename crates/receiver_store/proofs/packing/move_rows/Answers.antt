-- `receiver_store::packing::move_rows` meets its contract: what is left to move from here is what was to move. Assumes nothing.
use mathlib.Core.Path.{◌∙◌}
use Rattle.receiver_store.proofs.Steps.{pack_none, pack_next, pack_end}
use Rattle.receiver_store.proofs.Exits.{row_same_length}
use Rattle.receiver_store.proofs.packing.move_rows.Goals as goal

pub returns-then-p-ge4096 : goal.returns-then-p-ge4096
returns-then-p-ge4096 c = pack_none _ _ _ _ c.loop-test.true c.if-p-ge4096.true c.loop.invariant.1

pub loop-preserved : goal.loop-preserved
loop-preserved c = (
  row_same_length _ _ _ _ _ _ _ c.if-p-ge4096.false c.move_row-cursor.ensures ∙ c.loop.invariant.0,
  pack_next _ _ _ _ _ _ c.loop-test.true c.if-p-ge4096.false c.load_link-newer.ensures c.move_row-cursor.ensures c.loop.invariant.1,
)

pub returns : goal.returns
returns c = pack_end _ _ _ _ c.loop-test.false c.loop.invariant.1
