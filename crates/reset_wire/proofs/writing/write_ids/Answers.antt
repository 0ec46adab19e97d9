-- `reset_wire::writing::write_ids` meets its contract: the first i ids stand behind the head (proofs/Puts.antt). Assumes nothing.
use mathlib.Core.Path.{refl}
use Rattle.reset_wire.proofs.Puts.{ids_start, ids_next}
use Rattle.std.proofs.Common.{rules}
use Rattle.reset_wire.proofs.writing.write_ids.Goals as goal

pub loop-i-init : goal.loop-i-init
loop-i-init c = (refl, ids_start c.args.output.now c.args.ids.now)

pub loop-i-preserved : goal.loop-i-preserved
loop-i-preserved c = (search rules, ids_next c.args.output.now c.args.ids.now _ _ _ _ c.requires.1 c.requires.2 c.loop-i-test.true c.loop-i.invariant.1 c.put_u16.ensures)
