-- Group g is stale, or what is sought is behind it.
use Rattle.std.proofs.Common.{◌≡◌, ◌/◌, arith}
use Rattle.active_table.proofs.Refresh.{stale_here, full_here, full_past, stale_none, last_past}
use Rattle.active_table.proofs.groups.stale_group.Goals as goal
use Rattle.active_table.proofs.groups.stale_group.Goals.{else-full-n-via-then-full-n+else-is_fresh, else-full-n-via-else-full-n}

pub returns-then-not-is_fresh : goal.returns-then-not-is_fresh
returns-then-not-is_fresh c = full_here _ _ _ c.loop-g.invariant (omega arith) _ c.is_fresh.ensures c.if-not-is_fresh.true

pub loop-g-preserved : goal.loop-g-preserved
loop-g-preserved c = full_past _ _ _ c.loop-g.invariant (omega arith) _ c.is_fresh.ensures c.if-not-is_fresh.false

pub returns-then-is_fresh : goal.returns-then-is_fresh
returns-then-is_fresh c =
    let t : c.loop-g.g ≡ c.args.n / 24 = omega arith in
    last_past _ _ _ (rw t at c.loop-g.invariant) (omega arith) c.if-full-n.true _ c.is_fresh-then-full-n.ensures c.if-is_fresh.true

pub returns : goal.returns
returns c =
    let t : c.loop-g.g ≡ c.args.n / 24 = omega arith in
    elim c.else-full-n.branch [
      | else-full-n-via-then-full-n+else-is_fresh w ↦ stale_here _ _ _ (rw t at c.loop-g.invariant) w.if-full-n.true _ w.is_fresh-then-full-n.ensures w.if-is_fresh.false
      | else-full-n-via-else-full-n w ↦ stale_none _ _ _ (rw t at c.loop-g.invariant) (omega arith) (omega arith) w.if-full-n.false
    ]
