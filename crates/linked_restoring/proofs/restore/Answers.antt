-- `linked_restoring::restore` meets its contract: what the call promises of the words implies the rest (proofs/Meets.antt). Assumes nothing.
use Prim.Native.Nat.{◌<◌}
use Rattle.big_endian.proofs.Typed.{bytes_fit}
use Rattle.linked_restoring.proofs.Meets.{restore_meets}
use Rattle.std.proofs.Common.{rules}
use Rattle.linked_restoring.proofs.restore.Goals as goal

pub returns : goal.returns
returns c =
    let a = c.args in
    let ht : a.time < 18446744073709551616 = search rules in
    restore_meets _ _ _ _ _ _ _ ht (bytes_fit a.image.now c.shared_slice_known-1.given) c.restore.ensures
