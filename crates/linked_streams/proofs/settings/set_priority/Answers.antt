use Prim.Native.Nat.{◌<◌}
use Rattle.linked_streams.proofs.Sets.{set_priority_meets}
use Rattle.std.proofs.Common.{rules}
use Rattle.linked_streams.proofs.settings.set_priority.Goals as goal

-- `linked_streams::settings::set_priority` meets its contract: what the call promises of the words implies the rest (proofs/Sets.antt). Assumes nothing.
pub returns : goal.returns
returns c =
    let a = c.args in
    let hid : a.id < 65536 = search rules in
    let hp : a.priority < 65536 = search rules in
    set_priority_meets _ _ _ _ _ hid hp c.set_priority.ensures
