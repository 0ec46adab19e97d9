-- Filling a packet is the model's. Assumes nothing.
use Rattle.std.specs.Prelude.{ℕ, ◌≡◌, List, length}
use Rattle.queue_model.specs.Types.{Answer, refused, done, number, flag, ids, fragment, nothing_waits, filled, Outcome, Step}
use Rattle.queue_model.specs.Answers.{answer_number, event_count}
use Rattle.queue_model.specs.Run as run
use Rattle.queue_streams.specs.Events.{places_in, written}
use Rattle.queue_state.specs.Model.{model}
use Rattle.queue_state.specs.Good.{Good}
use Rattle.packets.specs.declared.packet.Packet.{Packet}
use Rattle.packets.specs.PacketFilled.{PacketFilled}
use Rattle.packets.specs.PacketFilled as packet
use Rattle.packets.specs.Filling.{packet_of, FilledWith, filled_with_words, filled_number, filled_events, filled_bytes, filled_chunks, fill_packet}
use Rattle.linked_sending.specs.Meaning.{buffer_of}

-- The answer, with the count of the events: "the bytes and chunks written".
abbrev pub filled_of : Answer → ℕ → PacketFilled
filled_of (refused n) k = packet.Refused n
filled_of done k = packet.Filled k 0 0
filled_of (number m) k = packet.Filled k 0 0
filled_of (flag b) k = packet.Filled k 0 0
filled_of (ids l) k = packet.Filled k 0 0
filled_of (fragment f) k = packet.Filled k 0 0
filled_of nothing_waits k = packet.Filled k 0 0
filled_of (filled bs n) k = packet.Filled k (length bs) n

-- What is left is a step of the model: its answer, its events in order, its packet's bytes at the start of the lent buffer, its next queue.
pub record Fills (s : Step) (st es bs : List ℕ) (p : FilledWith) : Type 0 where
  pub good : Good p.words st
  pub next : model p.words st ≡ s.next
  pub answer : p.answer ≡ filled_of s.outcome.answer (length s.outcome.events)
  pub events : p.events ≡ written es 0 s.outcome.events
  pub packet : p.packet ≡ buffer_of s.outcome.answer bs

-- The values of the model's answer: "the bytes and chunks written", 0 where it is no packet.
abbrev pub packet_length : Answer → ℕ
packet_length (refused n) = 0
packet_length done = 0
packet_length (number m) = 0
packet_length (flag b) = 0
packet_length (ids l) = 0
packet_length (fragment f) = 0
packet_length nothing_waits = 0
packet_length (filled bs n) = length bs

abbrev pub packet_chunks : Answer → ℕ
packet_chunks (refused n) = 0
packet_chunks done = 0
packet_chunks (number m) = 0
packet_chunks (flag b) = 0
packet_chunks (ids l) = 0
packet_chunks (fragment f) = 0
packet_chunks nothing_waits = 0
packet_chunks (filled bs n) = n

-- "If an answer is an enum, a definition states this paper's number and values for each case of the enum. The promises use that definition." The number,
-- how many events it tells, the bytes and the chunks: the model's.
pub record TellsPacket (o : Outcome) (r : PacketFilled) : Type 0 where
  pub number : filled_number r ≡ answer_number o.answer
  pub events : filled_events r ≡ event_count o
  pub bytes : filled_bytes r ≡ packet_length o.answer
  pub chunks : filled_chunks r ≡ packet_chunks o.answer

-- The model's call.
abbrev pub fill_call : List ℕ → List ℕ → List ℕ → ℕ → Packet → run.Call
fill_call st es bs time p = run.fill (length st) (places_in es) (length bs) time (packet_of p)

-- The contract: the words for every input, and the model's step from good words.
pub record FillMeets (ws st es bs : List ℕ) (time : ℕ) (p : Packet) (r : PacketFilled) (ws' es' bs' : List ℕ) : Type 0 where
  pub words : filled_with_words r ws' es' bs' ≡ fill_packet ws st es bs time p
  pub tells : Good ws st → TellsPacket (run.step (fill_call st es bs time p) (model ws st)).outcome r
  pub model : Good ws st → Fills (run.step (fill_call st es bs time p) (model ws st)) st es bs (filled_with_words r ws' es' bs')
