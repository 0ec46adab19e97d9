use Prim.Native.Nat.{◌<◌}
use Rattle.linked_streams.proofs.Sets.{set_threshold_meets}
use Rattle.std.proofs.Common.{rules}
use Rattle.linked_streams.proofs.settings.set_buffered_amount_low_threshold.Goals as goal

-- `linked_streams::settings::set_buffered_amount_low_threshold` meets its contract: what the call promises of the words implies the rest
-- (proofs/Sets.antt). Assumes nothing.
pub returns : goal.returns
returns c =
    let a = c.args in
    let hid : a.id < 65536 = search rules in
    let ht : a.threshold < 18446744073709551616 = search rules in
    set_threshold_meets _ _ _ _ _ _ _ hid ht c.set_buffered_amount_low_threshold.ensures
