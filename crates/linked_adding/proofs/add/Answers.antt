-- `linked_adding::add` meets its contract: what the call promises of the words implies the rest (proofs/Meets.antt). Assumes nothing.
use Prim.Native.Nat.{◌<◌}
use Rattle.queue_model.specs.Demands.{MessageTyped}
use Rattle.big_endian.proofs.Typed.{bytes_fit}
use Rattle.linked_adding.specs.Message.{message_of_words}
use Rattle.linked_adding.proofs.Fitting.{lifetime_fits, retransmissions_fit}
use Rattle.linked_adding.proofs.Meets.{add_meets}
use Rattle.std.proofs.Common.{rules}
use Rattle.linked_adding.proofs.add.Goals as goal

pub returns : goal.returns
returns c =
    let a = c.args in
    let m = c.well_formed.1.1.1.0.1.1 in
    let ht : a.time < 18446744073709551616 = search rules in
    let hi : a.m.stream_id.0 < 65536 = search rules in
    let hp : a.m.ppid < 4294967296 = search rules in
    let hl : a.m.lifecycle_id < 18446744073709551616 = search rules in
    let typed : MessageTyped (message_of_words a.m a.payload.now) = record {
      stream_id = hi;
      ppid = hp;
      max_retransmissions = retransmissions_fit a.m.max_retransmissions _ m.1.1.1.1.0;
      lifetime = lifetime_fits a.m.lifetime _ m.1.1.1.0;
      lifecycle_id = hl;
      payload = bytes_fit a.payload.now c.shared_slice_known-1.given;
    } in
    add_meets _ _ _ _ _ _ _ _ ht typed c.add.ensures
