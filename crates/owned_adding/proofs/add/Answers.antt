-- `owned_adding::add` meets its contract: each way out is the checked call's, since the words are those of a queue (proofs/Sound.antt). Assumes nothing.
use native.Mathlib.Omega.{arith}
use Prim.Native.Nat.{◌<◌}
use borrow.Author.Tests.{ltb-true}
use Rattle.queue_model.specs.Demands.{MessageTyped}
use Rattle.big_endian.proofs.Typed.{bytes_fit}
use Rattle.types.proofs.Refusals.{refusal_above}
use Rattle.linked_adding.specs.Message.{message_of_words}
use Rattle.linked_adding.proofs.Fitting.{lifetime_fits, retransmissions_fit}
use Rattle.owned_adding.proofs.Sound.{may_find, out_asked, placed_may, out_placed, out_full}
use Rattle.std.proofs.Common.{rules}
use Rattle.owned_adding.proofs.add.Goals as goal

pub returns-in-Err : goal.returns-in-Err
returns-in-Err c =
    let a = c.args in
    let k = c.well_formed.1.1.1.0.1.1 in
    let ht : a.time < 18446744073709551616 = search rules in
    let hi : a.m.stream_id.0 < 65536 = search rules in
    let hp : a.m.ppid < 4294967296 = search rules in
    let hl : a.m.lifecycle_id < 18446744073709551616 = search rules in
    let typed : MessageTyped (message_of_words a.m a.payload.now) = record {
      stream_id = hi;
      ppid = hp;
      max_retransmissions = retransmissions_fit a.m.max_retransmissions _ k.1.1.1.1.0;
      lifetime = lifetime_fits a.m.lifetime _ k.1.1.1.0;
      lifecycle_id = hl;
      payload = bytes_fit a.payload.now c.shared_slice_known-1.given;
    } in
    out_asked a.queue.now a.store.now c.requires a.time a.m a.payload.now ht typed _ c.in-Err.ensures (ltb-true 0 _ (refusal_above _)) _ c.asked_refusal.ensures

pub look_up_own-requires : goal.look_up_own-requires
look_up_own-requires c = may_find _ _ c.requires _

pub returns-in_default-look_up_own : goal.returns-in_default-look_up_own
returns-in_default-look_up_own c =
    let a = c.args in
    let k = c.well_formed.1.1.1.0.1.1 in
    let ht : a.time < 18446744073709551616 = search rules in
    let hi : a.m.stream_id.0 < 65536 = search rules in
    let hp : a.m.ppid < 4294967296 = search rules in
    let hl : a.m.lifecycle_id < 18446744073709551616 = search rules in
    let typed : MessageTyped (message_of_words a.m a.payload.now) = record {
      stream_id = hi;
      ppid = hp;
      max_retransmissions = retransmissions_fit a.m.max_retransmissions _ k.1.1.1.1.0;
      lifetime = lifetime_fits a.m.lifetime _ k.1.1.1.0;
      lifecycle_id = hl;
      payload = bytes_fit a.payload.now c.shared_slice_known-1.given;
    } in
    out_full a.queue.now a.store.now c.requires a.time a.m a.payload.now ht typed _ c.in_default.ensures (omega arith) _ c.look_up_own.ensures c.in_default-look_up_own.is

pub add_own-requires : goal.add_own-requires
add_own-requires c =
    let a = c.args in
    let k = c.well_formed.1.1.1.0.1.1 in
    let ht : a.time < 18446744073709551616 = search rules in
    let hi : a.m.stream_id.0 < 65536 = search rules in
    let hp : a.m.ppid < 4294967296 = search rules in
    let hl : a.m.lifecycle_id < 18446744073709551616 = search rules in
    let typed : MessageTyped (message_of_words a.m a.payload.now) = record {
      stream_id = hi;
      ppid = hp;
      max_retransmissions = retransmissions_fit a.m.max_retransmissions _ k.1.1.1.1.0;
      lifetime = lifetime_fits a.m.lifetime _ k.1.1.1.0;
      lifecycle_id = hl;
      payload = bytes_fit a.payload.now c.shared_slice_known-1.given;
    } in
    placed_may a.queue.now a.store.now c.requires a.time a.m a.payload.now ht typed _ c.in_default.ensures (omega arith) _ c.look_up_own.ensures _ c.in-Some.is

pub returns : goal.returns
returns c =
    let a = c.args in
    let k = c.well_formed.1.1.1.0.1.1 in
    let ht : a.time < 18446744073709551616 = search rules in
    let hi : a.m.stream_id.0 < 65536 = search rules in
    let hp : a.m.ppid < 4294967296 = search rules in
    let hl : a.m.lifecycle_id < 18446744073709551616 = search rules in
    let typed : MessageTyped (message_of_words a.m a.payload.now) = record {
      stream_id = hi;
      ppid = hp;
      max_retransmissions = retransmissions_fit a.m.max_retransmissions _ k.1.1.1.1.0;
      lifetime = lifetime_fits a.m.lifetime _ k.1.1.1.0;
      lifecycle_id = hl;
      payload = bytes_fit a.payload.now c.shared_slice_known-1.given;
    } in
    out_placed a.queue.now a.store.now c.requires a.time a.m a.payload.now ht typed _ c.in_default.ensures (omega arith) _ c.look_up_own.ensures _ c.in-Some.is _ _ _ c.add_own.ensures
