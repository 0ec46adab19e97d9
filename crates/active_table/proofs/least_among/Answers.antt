-- Four rows more, or one.
use Rattle.std.proofs.Common.{◌≡◌, ◌+◌, ◌*◌, arith}
use Rattle.active_table.proofs.Laws.{among_none, among_part}
use Rattle.active_table.proofs.least_among.Goals as goal

pub loop-g-init : goal.loop-g-init
loop-g-init c = among_none _ _ _

pub loop-g-preserved : goal.loop-g-preserved
loop-g-preserved c =
    let t : (c.loop-g.g + 1) * 4 ≡ c.loop-g.g * 4 + 4 = omega arith in
    rw t (among_part _ _ _ _ 4 _ _ c.loop-g.invariant c.least_past-best.ensures)

pub loop-i-preserved : goal.loop-i-preserved
loop-i-preserved c = among_part _ _ _ _ 1 _ _ c.loop-i.invariant c.least_of-best.ensures.0
