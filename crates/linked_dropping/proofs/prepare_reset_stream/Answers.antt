-- `linked_dropping::prepare_reset_stream` meets its contract: what the call promises of the words implies the rest (proofs/Both). Assumes nothing.
use Prim.Native.Nat.{◌<◌}
use lib.ListN.{length}
use Rattle.linked_dropping.proofs.Both.{close_meets}
use Rattle.std.proofs.Common.{rules}
use Rattle.linked_dropping.proofs.prepare_reset_stream.Goals as goal

pub returns : goal.returns
returns c =
    let a = c.args in
    let hid : a.id < 65536 = search rules in
    let hes : length a.events.now < 18446744073709551616 = search rules in
    close_meets _ _ _ _ _ _ hid hes c.prepare_reset_stream.ensures
