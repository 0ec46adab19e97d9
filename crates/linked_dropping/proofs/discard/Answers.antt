-- `linked_dropping::discard` meets its contract: what the call promises of the words implies the rest (proofs/Both). Assumes nothing.
use Prim.Native.Nat.{◌<◌}
use lib.ListN.{length}
use Rattle.linked_dropping.proofs.Both.{discard_meets}
use Rattle.std.proofs.Common.{rules}
use Rattle.linked_dropping.proofs.discard.Goals as goal

pub returns : goal.returns
returns c =
    let a = c.args in
    let hid : a.id < 65536 = search rules in
    let hm : a.message_id < 4294967296 = search rules in
    let hes : length a.events.now < 18446744073709551616 = search rules in
    discard_meets _ _ _ _ _ _ _ hid hm hes c.discard.ensures
