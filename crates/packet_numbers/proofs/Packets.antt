-- What filling a packet gives, by what it ensures. Assumes nothing.
use Prim.Native.Nat.{ℕ}
use mathlib.Core.Path.{◌≡◌, refl}
use mathlib.Core.List.{List}
use Rattle.packets.specs.PacketFilled.{PacketFilled}
use Rattle.packets.specs.Filling.{FilledWith, filled_with_words, filled_number}
use Rattle.packet_numbers.specs.Packets.{filled_out, GivesPacket}

pub gives_packet : (d : FilledWith) (a : PacketFilled) (out : List ℕ) (r : ℕ) (ws' es' bs' out' : List ℕ) → filled_with_words a ws' es' bs' ≡ d → (r ≡ filled_number a) × (out' ≡ filled_out out a) → GivesPacket d out r ws' es' bs' out'
gives_packet d a out r ws' es' bs' out' e t = rw (← e) (record { number = t.0; queue = refl; events = refl; packet = refl; places = t.1 })
