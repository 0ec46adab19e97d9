-- `packets::filling::fill_one` meets its contract: the call within its part of the packet, and the chunk around what it wrote there. Assumes nothing.
use mathlib.Core.Path.{◌≡◌}
use Prim.Native.Nat.{◌+◌}
use native.Mathlib.Omega.{arith}
use lib.ListN.{length}
use Rattle.packets.proofs.Cases.{around_allowed, part_within, start_is, start_room, part_length, one_fragment, one_nothing, one_refused}
use Rattle.std.proofs.Common.{refl}
use Rattle.std.proofs.lemmas.Result.{err_from_is_err_and}
use Rattle.packets.proofs.filling.fill_one.Goals as goal

pub put_around-requires : goal.put_around-requires
put_around-requires c =
    let fits = part_within _ _ _ _ _ _ _ _ _ _ _ (rw c.in-Fragment.is at c.in_ok-made.ensures) _ _ refl in
    let allowed = around_allowed c.args.kind _ c.args.size c.args.at _ fits c.requires.1.0 c.requires.1.1 in
    (allowed.0, omega (arith, allowed.1))

pub returns-in-Fragment : goal.returns-in-Fragment
returns-in-Fragment c =
    let start = c.args.at + c.header_size.result in
    let room = start_room c.args.kind c.args.at c.args.size c.header_size.result (length c.args.packet.now) c.header_size.ensures c.requires.1.1 in
    let part = part_length c.args.packet.now start c.args.size room in
    let lent : length c.produce_after.new.buffer ≡ c.args.size = omega (arith, part, c.produce_after.auto.buffer) in
    one_fragment c.args.kind c.args.store.now c.args.queue.now c.args.events.now c.args.packet.now c.args.time c.args.at c.args.k c.args.tsn c.args.size _ (start_is c.args.kind _ _ c.header_size.ensures) room _ _ _ _ lent (rw c.in-Fragment.is at c.in_ok-made.ensures) _ _ _ refl c.put_around.ensures

pub returns-in-Nothing : goal.returns-in-Nothing
returns-in-Nothing c =
    let start = c.args.at + c.header_size.result in
    let room = start_room c.args.kind c.args.at c.args.size c.header_size.result (length c.args.packet.now) c.header_size.ensures c.requires.1.1 in
    let part = part_length c.args.packet.now start c.args.size room in
    let lent : length c.produce_after.new.buffer ≡ c.args.size = omega (arith, part, c.produce_after.auto.buffer) in
    one_nothing c.args.kind c.args.store.now c.args.queue.now c.args.events.now c.args.packet.now c.args.time c.args.at c.args.k c.args.tsn c.args.size _ (start_is c.args.kind _ _ c.header_size.ensures) room _ _ _ _ lent (rw c.in-Nothing.is at c.in_ok-made.ensures) _ refl

pub returns-in_err-made : goal.returns-in_err-made
returns-in_err-made c =
    let p = err_from_is_err_and c.from_residual.result c.from_residual.ensures.1 in
    let start = c.args.at + c.header_size.result in
    let room = start_room c.args.kind c.args.at c.args.size c.header_size.result (length c.args.packet.now) c.header_size.ensures c.requires.1.1 in
    let part = part_length c.args.packet.now start c.args.size room in
    let lent : length c.produce_after.new.buffer ≡ c.args.size = omega (arith, part, c.produce_after.auto.buffer) in
    rw (p.1, p.2) (one_refused c.args.kind c.args.store.now c.args.queue.now c.args.events.now c.args.packet.now c.args.time c.args.at c.args.k c.args.tsn c.args.size _ (start_is c.args.kind _ _ c.header_size.ensures) room _ _ _ _ lent c.in_err-made.ensures _ refl)
