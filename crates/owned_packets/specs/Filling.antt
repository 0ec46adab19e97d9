-- Filling a packet from a queue that its own calls alone have changed. Assumes nothing.
use Rattle.std.specs.Prelude.{ℕ, ◌≤◌, ◌<◌, ◌≡◌, List, length, Result, Ok, Err}
use Rattle.queue_model.specs.Fill.{common_header_length}
use Rattle.queue_streams.specs.Events.{event_words}
use Rattle.queue_state.specs.Good.{Good}
use Rattle.packets.specs.Answers.{filled_of}
use Rattle.packets.specs.Filling.{packet_code, events_code, reached}
use Rattle.packets.specs.Filling as checked
use Rattle.packets.specs.PacketFilled.{PacketFilled}
use Rattle.packets.specs.PacketFilled as packet
use Rattle.packets.specs.declared.packet.Filled.{Filled}
use Rattle.owned_packets.specs.declared.filling.Progress.{Progress}
use Rattle.owned_packets.specs.declared.refusals.FillRefusal.{FillRefusal}
use Rattle.owned_packets.specs.declared.refusals.FillRefusal.TheVariants as refusal

-- The number of a refusal. "20 when the packet limit is outside 36 to 65,535, 21 when the packet buffer is shorter than the limit"; 3 and 4 are document 01's.
abbrev pub refusal_number : FillRefusal → ℕ
refusal_number refusal.PacketLimitWrong = 20
refusal_number refusal.PacketBufferShort = 21
refusal_number refusal.EventListShort = 3
refusal_number refusal.TimeLate = 4

-- The refusals that what is lent and asked for decides, where the store is the queue's own.
abbrev pub lent_code : ℕ → ℕ → ℕ → ℕ → ℕ
lent_code places room time limit = packet_code room limit (events_code places time)

-- a number that what is lent and asked for is refused with
pub record Lent (code : ℕ) : Type 0 where
  pub places : ℕ
  pub room : ℕ
  pub time : ℕ
  pub limit : ℕ
  pub is_code : code ≡ lent_code places room time limit
  pub is_refused : 0 < code

-- What the calls of a filling ask, all of them: words and store are those of a queue, the list has places for all its events, the time is accepted, and the packet is as long as its limit.
pub record MayFill (ws st es bs : List ℕ) (time limit : ℕ) : Type 0 where
  pub good : Good ws st
  pub places : event_words ≤ length es
  pub in_time : time ≤ 4611686018427387903
  pub header_fits : common_header_length ≤ limit
  pub limit_fits : limit ≤ 65535
  pub packet_long : limit ≤ length bs

-- How far a filling has come, as the checked one shows it: no refusal ends it.
abbrev pub filling_of : Progress → checked.Filling
filling_of r = reached r.used r.events r.chunks 0

-- The answer as the checked call shows it.
abbrev pub filled_as : Result Filled FillRefusal → PacketFilled
filled_as (Ok f) = filled_of f
filled_as (Err r) = packet.Refused (refusal_number r)

-- Refused only for what is lent and asked for: 20, 21, 3 and 4, and so never with 2 or 16.
abbrev pub OnlyLent : PacketFilled → Type 0
OnlyLent r = (n : ℕ) → r ≡ packet.Refused n → Lent n
