-- `undo_log::undo` meets its contract: what undoing the rest leaves is what undoing all leaves. Assumes nothing.
use Rattle.undo_log.proofs.Exits.{undo_turn, undo_end}
use Rattle.undo_log.proofs.undo.Goals as goal

pub loop-i-preserved : goal.loop-i-preserved
loop-i-preserved c = undo_turn _ _ _ _ c.loop-i.invariant c.loop-i-test.true _ c.undo_drop.ensures

pub returns : goal.returns
returns c = undo_end _ _ _ _ c.loop-i.invariant c.loop-i-test.false
