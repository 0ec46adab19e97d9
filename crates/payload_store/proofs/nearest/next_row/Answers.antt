-- One group more.
use Rattle.payload_store.proofs.Groups.{seeking_start, seeking_on}
use Rattle.payload_store.proofs.nearest.next_row.Goals as goal

pub loop-g-init : goal.loop-g-init
loop-g-init c = seeking_start _ _ _ c.requires

pub loop-g-preserved : goal.loop-g-preserved
loop-g-preserved c = seeking_on _ _ _ _ _ _ _ c.loop-g-test.true c.loop-g.invariant c.renewed-b.ensures c.better-best.ensures
