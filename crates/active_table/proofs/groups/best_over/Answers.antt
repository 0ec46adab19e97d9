-- One full group more, and the last, which is not full.
use Rattle.std.proofs.Common.{◌≡◌, ◌/◌, arith}
use Rattle.active_table.proofs.Refresh.{over_none, over_full, over_last}
use Rattle.active_table.proofs.groups.best_over.Goals as goal

pub loop-g-init : goal.loop-g-init
loop-g-init c = over_none _ _ _ c.first_row-best.ensures

pub loop-g-preserved : goal.loop-g-preserved
loop-g-preserved c = over_full _ _ _ _ _ c.loop-g.invariant (omega arith) c.best_in-best.ensures

pub returns-then-full-n : goal.returns-then-full-n
returns-then-full-n c =
    let t : c.loop-g.g ≡ c.args.n / 24 = omega arith in
    over_last _ _ _ _ (rw t at c.loop-g.invariant) (omega arith) _ c.if-full-n.true c.best_in.ensures
