-- `owned_packets::filling::fill_one` meets its contract: the call within its part of the packet, and the chunk around what it wrote there. Assumes nothing.
use mathlib.Core.Path.{◌≡◌}
use Prim.Native.Nat.{◌+◌}
use native.Mathlib.Omega.{arith}
use lib.ListN.{length}
use Rattle.packets.proofs.Cases.{around_allowed, part_within, start_is, start_room, part_length, one_fragment, one_nothing}
use Rattle.std.proofs.Common.{refl}
use Rattle.owned_packets.proofs.filling.fill_one.Goals as goal

pub put_around-requires : goal.put_around-requires
put_around-requires c =
    let fits = part_within _ _ _ _ _ _ _ _ _ _ _ c.in-Fragment.ensures _ _ refl in
    let allowed = around_allowed c.args.kind _ c.args.size c.args.at _ fits c.requires.1.0 c.requires.1.1 in
    (allowed.0, omega (arith, allowed.1))

pub returns-in-Fragment : goal.returns-in-Fragment
returns-in-Fragment c =
    let start = c.args.at + c.header_size.result in
    let room = start_room c.args.kind c.args.at c.args.size c.header_size.result (length c.args.packet.now) c.header_size.ensures c.requires.1.1 in
    let part = part_length c.args.packet.now start c.args.size room in
    let lent : length c.produce_after-made.new.buffer ≡ c.args.size = omega (arith, part, c.produce_after-made.auto.buffer) in
    one_fragment c.args.kind c.args.store.now c.args.queue.now c.args.events.now c.args.packet.now c.args.time c.args.at c.args.k c.args.tsn c.args.size _ (start_is c.args.kind _ _ c.header_size.ensures) room _ _ _ _ lent c.in-Fragment.ensures _ _ _ refl c.put_around.ensures

pub returns-in-Nothing : goal.returns-in-Nothing
returns-in-Nothing c =
    let start = c.args.at + c.header_size.result in
    let room = start_room c.args.kind c.args.at c.args.size c.header_size.result (length c.args.packet.now) c.header_size.ensures c.requires.1.1 in
    let part = part_length c.args.packet.now start c.args.size room in
    let lent : length c.produce_after-made.new.buffer ≡ c.args.size = omega (arith, part, c.produce_after-made.auto.buffer) in
    one_nothing c.args.kind c.args.store.now c.args.queue.now c.args.events.now c.args.packet.now c.args.time c.args.at c.args.k c.args.tsn c.args.size _ (start_is c.args.kind _ _ c.header_size.ensures) room _ _ _ _ lent c.in-Nothing.ensures _ refl
