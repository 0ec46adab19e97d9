-- `owned_packets::filling::fill_chunks` meets its contract: what the calls leave from here on is what they leave from the start on, and the words are those of a queue (proofs/Turns.antt). The measure is how many turns are left. Assumes nothing.
use mathlib.Core.Path.{◌≡◌}
use Prim.Native.Nat.{◌+◌, ◌≤◌}
use lib.ListN.{length}
use Rattle.queue_model.specs.Fill.{common_header_length}
use Rattle.packets.specs.Filling.{fill_on_words}
use Rattle.owned_packets.proofs.Turns.{Going}
use Rattle.owned_packets.proofs.filling.fill_chunks.Given as goal

abbrev pub invariant-loop-left : goal.invariant-loop-left
invariant-loop-left l =
    (length l.events ≡ length l.initial.events) × ((length l.packet ≡ length l.initial.packet) × ((l.used ≤ l.limit) × ((l.chunks + l.left ≡ l.limit)
    × ((fill_on_words l.left l.kind l.store l.time l.limit l.most l.queue l.events l.packet l.used l.count l.chunks l.tsn ≡ fill_on_words l.limit l.kind l.store l.time l.limit l.most l.initial.queue l.initial.events l.initial.packet common_header_length 0 0 l.first)
    × Going l.store l.initial.events l.queue l.events l.count))))

abbrev pub decreases-loop-left : goal.decreases-loop-left
decreases-loop-left l = l.left
