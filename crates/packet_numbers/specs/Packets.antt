-- Packets as numbers, for a host in C or Rust. Assumes nothing.
use Rattle.std.specs.Prelude.{ℕ, ◌≡◌, List, set}
use Rattle.packets.specs.declared.packet.Packet.{Packet}
use Rattle.packets.specs.PacketFilled.{PacketFilled}
use Rattle.packets.specs.PacketFilled as packet
use Rattle.packets.specs.Filling.{FilledWith, filled_number}

-- a packet by its numbers
abbrev pub packet_with : ℕ → ℕ → ℕ → ℕ → ℕ → Packet
packet_with limit source destination tag tsn = record { limit = limit; source_port = source; destination_port = destination; verification_tag = tag; tsn = tsn }

-- the chunks as the value, the events, the bytes as the length
abbrev pub told_packet : List ℕ → ℕ → ℕ → ℕ → List ℕ
told_packet out k bytes chunks = set (set (set out 0 chunks) 1 k) 2 bytes

abbrev pub filled_out : List ℕ → PacketFilled → List ℕ
filled_out out (packet.Filled k bytes chunks) = told_packet out k bytes chunks
filled_out out (packet.Refused n) = out

-- What filling a packet gives: the number r, and what is left in each array, by the definition on the words. `out` is the array before the call.
pub record GivesPacket (d : FilledWith) (out : List ℕ) (r : ℕ) (ws' es' bs' out' : List ℕ) : Type 0 where
  pub number : r ≡ filled_number d.answer
  pub queue : ws' ≡ d.words
  pub events : es' ≡ d.events
  pub packet : bs' ≡ d.packet
  pub places : out' ≡ filled_out out d.answer
