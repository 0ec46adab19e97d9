use Rattle.std.proofs.Common.{◌≡◌, ◌+◌, ◌-◌, length}
use native.Mathlib.Omega.{arith}
use lib.Seq.{drop-drop}
use Rattle.big_endian.specs.Numbers.{wrote}
use Rattle.big_endian.proofs.put_bytes.Goals as goal

-- `big_endian::put_bytes` meets its contract: what stands behind the part is what stood there. Assumes nothing.
pub returns : goal.returns
unfolding wrote
returns g c =
    let n : c.args.at + g.row.N - c.args.at ≡ length c.args.part.now = omega arith in
    rw (c.copy_from_slice.ensures.after, n, drop-drop)
