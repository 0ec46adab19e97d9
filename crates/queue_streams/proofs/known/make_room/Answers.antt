-- `queue_streams::known::make_room` meets its contract: the rows above i have moved up. Assumes nothing.
use native.Mathlib.Omega.{arith}
use Rattle.queue_streams.proofs.Exits.{shift_start, shift_next}
use Rattle.queue_streams.proofs.known.make_room.Goals as goal

pub loop-i-init : goal.loop-i-init
loop-i-init c = (c.requires.0, shift_start _ _)

pub loop-i-preserved : goal.loop-i-preserved
loop-i-preserved c = (omega arith, shift_next _ _ _ _ _ _ (omega arith) c.loop-i.auto.i c.loop-i.invariant.1 c.load_known-k.ensures c.store_known.ensures)
