-- `undo_log::copy_row` meets its contract: what a copy of a slice ensures is what a row put into another list is. Assumes nothing.
use mathlib.Core.Path.{◌≡◌}
use Prim.Native.Nat.{◌+◌, ◌-◌}
use native.Mathlib.Omega.{arith}
use Rattle.undo_log.proofs.Turns.{part_put}
use Rattle.undo_log.proofs.copy_row.Goals as goal

pub returns : goal.returns
returns c =
    let m : c.args.at + c.args.n - c.args.at ≡ c.args.n = omega arith in
    let l : c.args.start + c.args.n - c.args.start ≡ c.args.n = omega arith in
    rw (c.copy_from_slice.ensures.after, m, l) (part_put c.args.to.now c.args.from.now c.args.at c.args.start c.args.n c.requires.0 c.requires.1)
