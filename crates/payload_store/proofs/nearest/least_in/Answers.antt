-- One row more.
use Rattle.std.proofs.Common.{◌≡◌, ◌*◌, ◌-◌, arith}
use Rattle.payload_store.specs.Moving.{least_in}
use Rattle.payload_store.proofs.Groups.{in_on}
use Rattle.payload_store.proofs.nearest.least_in.Goals as goal

pub loop-i-init : goal.loop-i-init
unfolding least_in
loop-i-init c =
    let z : c.args.g * 32 - c.args.g * 32 ≡ 0 = omega arith in
    rw z

pub loop-i-preserved : goal.loop-i-preserved
loop-i-preserved c = in_on _ _ _ _ _ _ c.loop-i.auto.i c.loop-i.invariant c.choose_row-best.ensures
