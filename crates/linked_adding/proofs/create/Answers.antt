-- `linked_adding::create` meets its contract: what the call promises of the words implies the rest (proofs/Meets.antt). Assumes nothing.
use Prim.Native.Nat.{◌<◌}
use Rattle.linked_adding.proofs.Meets.{create_meets}
use Rattle.std.proofs.Common.{rules}
use Rattle.linked_adding.proofs.create.Goals as goal

pub returns : goal.returns
returns c =
    let a = c.args in
    let hp : a.default_priority < 65536 = search rules in
    let ht : a.default_threshold < 18446744073709551616 = search rules in
    let hs : a.total_threshold < 18446744073709551616 = search rules in
    create_meets _ _ _ _ _ _ _ _ _ _ c.whole.ensures hp ht hs c.create.ensures
