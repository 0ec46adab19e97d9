-- The row is in the part that is looked at, or behind it.
use Rattle.std.proofs.Common.{◌≡◌, ◌+◌, ◌*◌, arith}
use Rattle.active_table.proofs.Laws.{seek_start, part_has, part_lacks, seek_end}
use Rattle.active_table.proofs.seek.Goals as goal

pub loop-g-init : goal.loop-g-init
loop-g-init c = seek_start _ _ _

pub returns-then-k-lt4 : goal.returns-then-k-lt4
returns-then-k-lt4 c = part_has _ _ _ _ 4 _ c.loop-g.invariant (omega arith) c.position_in-k.ensures c.if-k-lt4.true

pub loop-g-preserved : goal.loop-g-preserved
loop-g-preserved c =
    let t : (c.loop-g.g + 1) * 4 ≡ c.loop-g.g * 4 + 4 = omega arith in
    rw t (part_lacks _ _ _ _ 4 _ c.loop-g.invariant (omega arith) c.position_in-k.ensures c.if-k-lt4.false)

pub returns-then-k-lt1 : goal.returns-then-k-lt1
returns-then-k-lt1 c = part_has _ _ _ _ 1 _ c.loop-i.invariant (omega arith) c.position_in-k-in-loop-i.ensures c.if-k-lt1.true

pub loop-i-preserved : goal.loop-i-preserved
loop-i-preserved c = part_lacks _ _ _ _ 1 _ c.loop-i.invariant (omega arith) c.position_in-k-in-loop-i.ensures c.if-k-lt1.false

pub returns : goal.returns
returns c = seek_end _ _ _ _ c.loop-i.invariant (omega arith) c.loop-i-test.false
