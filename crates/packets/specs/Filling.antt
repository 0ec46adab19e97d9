-- Filling a packet, on the words, for every input (document 02, 5/13). Assumes nothing.
use Rattle.std.specs.Prelude.{ℕ, zero, suc, ◌+◌, ◌-◌, min, Bool, true, false, List, ltb, eqb, length, take, drop, replicate}
use Rattle.types.specs.Wrap.{wrap_suc}
use Rattle.queue_words.specs.Flags.{pick}
use Rattle.queue_words.specs.Header.{options_at, totals_at}
use Rattle.queue_model.specs.Types as plain
use Rattle.queue_model.specs.Bytes.{row_bytes}
use Rattle.queue_model.specs.Chunks.{padding, padded}
use Rattle.queue_model.specs.Fill.{rounded_down, common_header_length, common_header}
use Rattle.queue_streams.specs.Events.{event_words}
use Rattle.queue_sending.specs.Data.{ProducedWith, produced_with}
use Rattle.queue_sending.specs.Produce.{produced_after}
use Rattle.queue_sending.specs.declared.data.Data.{Data}
use Rattle.queue_sending.specs.Produced.{Produced}
use Rattle.queue_sending.specs.Produced as produced
use Rattle.big_endian.specs.Numbers.{wrote}
use Rattle.chunks.specs.Layout.{header_size, header_widths, header_row, flags_of}
use Rattle.chunks.specs.declared.chunk.ChunkKind.{ChunkKind}
use Rattle.chunks.specs.declared.chunk.ChunkKind.TheVariants as kind
use Rattle.packets.specs.declared.packet.Packet.{Packet}
use Rattle.packets.specs.PacketFilled.{PacketFilled}
use Rattle.packets.specs.PacketFilled as packet

-- The packet as the model takes it.
abbrev pub packet_of : Packet → plain.Packet
packet_of p = record { limit = p.limit; source_port = p.source_port; destination_port = p.destination_port; verification_tag = p.verification_tag; tsn = p.tsn }

-- "I-DATA while interleaving is on, else DATA".
abbrev pub kind_of : Bool → ChunkKind
kind_of false = kind.Data
kind_of true = kind.IData

-- "20 when the packet limit is outside 36 to 65,535, 21 when the packet buffer is shorter than the limit"; `next` is what comes after them.
abbrev pub packet_code : ℕ → ℕ → ℕ → ℕ
packet_code room limit next =
    pick (ltb limit 36) 20
    (pick (ltb 65535 limit) 20
    (pick (ltb room limit) 21 next))

-- Document 01's 3: "the event list has fewer than 2,305 places", and 4: "A time or lifetime is above 4,611,686,018,427,387,903."
abbrev pub events_code : ℕ → ℕ → ℕ
events_code places time =
    pick (ltb places event_words) 3
    (pick (ltb 4611686018427387903 time) 4 0)

-- The refusals that the arguments decide: 20 and 21; "both come before 01's checks for the next fragment": 2, 3, 4.
unfoldable pub fill_code : List ℕ → ℕ → ℕ → ℕ → ℕ → ℕ → ℕ
fill_code ws len places room time limit = packet_code room limit (pick (eqb (options_at ws).store_length len) (events_code places time) 2)

-- ------------------------------------------------------------------ one call for the next fragment

-- A chunk's header at `at`, before a payload that is in its place, and the zeros behind it.
unfoldable pub chunk_around : ChunkKind → ℕ → Data → List ℕ → ℕ → List ℕ
chunk_around k tsn d bs at =
    wrote (wrote bs at (row_bytes (header_widths k) (header_row k (flags_of d) 0 tsn d (header_size k + d.length)))) (at + (header_size k + d.length))
    (replicate (padding (header_size k + d.length)) 0)

-- What a call leaves of the packet, by its answer; `part` is its fragment buffer afterwards.
abbrev pub packet_after : ChunkKind → ℕ → List ℕ → ℕ → Produced → List ℕ
packet_after k tsn bs at (produced.Fragment j d) = chunk_around k tsn d.«data» bs at
packet_after k tsn bs at (produced.Nothing j) = bs
packet_after k tsn bs at (produced.Refused code) = bs

abbrev pub around : ChunkKind → ℕ → List ℕ → ℕ → ProducedWith → ProducedWith
around k tsn bs at p = produced_with p.answer p.words p.events (packet_after k tsn (wrote bs (at + header_size k) p.buffer) at p.answer)

-- One call for at most `size` bytes after k events, once `at` bytes of the packet are used: its fragment buffer is the part of the packet behind the chunk header, so each payload
-- goes from the store to its place.
unfoldable pub one_filled : ChunkKind → List ℕ → ℕ → List ℕ → List ℕ → List ℕ → ℕ → ℕ → ℕ → ℕ → ProducedWith
one_filled kind st time ws es bs at k tsn size =
    around kind tsn bs at (produced_after ws st es (take size (drop (at + header_size kind) bs)) time size k)

-- ------------------------------------------------------------------ all of them

-- How far a filling has come: the bytes used, how many events and chunks are written, and the refusal that ended it, 0 for none.
pub record Filling : Type 0 where
  pub used : ℕ
  pub events : ℕ
  pub chunks : ℕ
  pub code : ℕ

-- What the calls leave: how far the filling has come, and the words, the events and the packet.
pub record FillingWith : Type 0 where
  pub progress : Filling
  pub words : List ℕ
  pub events : List ℕ
  pub packet : List ℕ

abbrev pub filling_with : Filling → List ℕ → List ℕ → List ℕ → FillingWith
filling_with r ws es bs = record { progress = r; words = ws; events = es; packet = bs }

abbrev pub reached : ℕ → ℕ → ℕ → ℕ → Filling
reached used k chunks code = record { used = used; events = k; chunks = chunks; code = code }

-- What follows a call, by its answer: another one after a fragment. "A 16 [..] ends it at a later one."
abbrev pub after_one : (List ℕ → List ℕ → List ℕ → ℕ → ℕ → ℕ → ℕ → FillingWith) → ChunkKind → ℕ → ℕ → ℕ → ℕ → List ℕ → List ℕ → List ℕ → Produced → FillingWith
after_one again kind used k chunks tsn ws es bs (produced.Fragment j d) = again ws es bs (used + padded (header_size kind + d.«data».length)) j (chunks + 1) (wrap_suc 32 tsn)
after_one again kind used k chunks tsn ws es bs (produced.Nothing j) = filling_with (reached used j chunks 0) ws es bs
after_one again kind used k chunks tsn ws es bs (produced.Refused code) = filling_with (reached used k chunks code) ws es bs

abbrev pub and_on_words : (List ℕ → List ℕ → List ℕ → ℕ → ℕ → ℕ → ℕ → FillingWith) → ChunkKind → ℕ → ℕ → ℕ → ℕ → ProducedWith → FillingWith
and_on_words again kind used k chunks tsn p = after_one again kind used k chunks tsn p.words p.events p.buffer p.answer

-- "The size asked for is the packet limit less the bytes used and the chunk header (16, or 20 for I-DATA), rounded down to a multiple of 4, at most the payload limit."
abbrev pub size_asked_words : ChunkKind → ℕ → ℕ → ℕ → ℕ
size_asked_words kind limit most used = min (rounded_down (limit - (used + header_size kind))) most

-- "Filling ends when that size is 0 or less or nothing is waiting." The calls once `used` bytes are used, k events written and so many chunks, the next of them with this TSN; the first number is
-- how many turns are left.
unfoldable pub fill_on_words : ℕ → ChunkKind → List ℕ → ℕ → ℕ → ℕ → List ℕ → List ℕ → List ℕ → ℕ → ℕ → ℕ → ℕ → FillingWith
fill_on_words zero kind st time limit most ws es bs used k chunks tsn = filling_with (reached used k chunks 0) ws es bs
fill_on_words (suc turns) kind st time limit most ws es bs used k chunks tsn =
    pick (eqb (size_asked_words kind limit most used) 0) (filling_with (reached used k chunks 0) ws es bs)
    (and_on_words (λ (l v b : List ℕ) (u j c t : ℕ). fill_on_words turns kind st time limit most l v b u j c t) kind used k chunks tsn (one_filled kind st time ws es bs used k tsn (size_asked_words kind limit most used)))

-- ------------------------------------------------------------------ the call

-- What the call leaves: its answer, the words, the lent list of events, the lent packet.
pub record FilledWith : Type 0 where
  pub answer : PacketFilled
  pub words : List ℕ
  pub events : List ℕ
  pub packet : List ℕ

abbrev pub filled_with_words : PacketFilled → List ℕ → List ℕ → List ℕ → FilledWith
filled_with_words a ws es bs = record { answer = a; words = ws; events = es; packet = bs }

-- "The answer gives the bytes and chunks written; without a fragment no packet is written and both are 0. A 16 refuses the filling only at its first call".
unfoldable pub finished_answer : Filling → PacketFilled
finished_answer r = pick (eqb r.chunks 0) (pick (ltb 0 r.code) (packet.Refused r.code) (packet.Filled r.events 0 0)) (packet.Filled r.events r.used r.chunks)

-- The common header is written with a first fragment.
unfoldable pub finished_packet : Packet → Filling → List ℕ → List ℕ
finished_packet p r bs = pick (eqb r.chunks 0) bs (wrote bs 0 (common_header (packet_of p)))

abbrev pub finished : Packet → FillingWith → FilledWith
finished p f = filled_with_words (finished_answer f.progress) f.words f.events (finished_packet p f.progress f.packet)

-- Filling a packet.
unfoldable pub fill_packet : List ℕ → List ℕ → List ℕ → List ℕ → ℕ → Packet → FilledWith
fill_packet ws st es bs time p =
    pick (ltb 0 (fill_code ws (length st) (length es) (length bs) time p.limit)) (filled_with_words (packet.Refused (fill_code ws (length st) (length es) (length bs) time p.limit)) ws es bs)
    (finished p (fill_on_words p.limit (kind_of (totals_at ws).interleaving) st time p.limit (options_at ws).payload_limit ws es bs common_header_length 0 0 p.tsn))

-- The number of an answer: 0 where the call is accepted, else the refusal's.
abbrev pub filled_number : PacketFilled → ℕ
filled_number (packet.Filled k bytes chunks) = 0
filled_number (packet.Refused n) = n

-- Its values: how many events it tells, "the bytes and chunks written".
abbrev pub filled_events : PacketFilled → ℕ
filled_events (packet.Filled k bytes chunks) = k
filled_events (packet.Refused n) = 0

abbrev pub filled_bytes : PacketFilled → ℕ
filled_bytes (packet.Filled k bytes chunks) = bytes
filled_bytes (packet.Refused n) = 0

abbrev pub filled_chunks : PacketFilled → ℕ
filled_chunks (packet.Filled k bytes chunks) = chunks
filled_chunks (packet.Refused n) = 0
