-- What the code answers, in the documents' numbers. Assumes nothing.
use Rattle.std.specs.Prelude.{ℕ, Result, Ok, Err, Option, Some, None}
use Rattle.types.specs.Refusal.{refusal_number}
use Rattle.types.specs.declared.refusal.Refusal.{Refusal}
use Rattle.packets.specs.Filling.{Filling, reached}
use Rattle.packets.specs.PacketFilled.{PacketFilled}
use Rattle.packets.specs.PacketFilled as packet
use Rattle.packets.specs.declared.filling.Filling as made
use Rattle.packets.specs.declared.packet.Filled.{Filled}

-- how far a filling has come; 0 where no refusal ended it
abbrev pub ended_with : Option Refusal → ℕ
ended_with None = 0
ended_with (Some r) = refusal_number r

abbrev pub as_filling : made.Filling → Filling
as_filling f = reached f.used f.events f.chunks (ended_with f.refusal)

-- the answer
abbrev pub filled_of : Filled → PacketFilled
filled_of f = packet.Filled f.events f.bytes f.chunks

abbrev pub as_filled : Result Filled Refusal → PacketFilled
as_filled (Ok f) = filled_of f
as_filled (Err r) = packet.Refused (refusal_number r)
