-- The changeover image: its records, its bytes, and saving. Document 01, "The changeover image". Assumes nothing.
use Rattle.std.specs.Prelude.{ℕ, ◌+◌, ◌-◌, ◌/◌, min, Bool, true, false, ◌&&◌, List, [], ◌∷◌, ◌++◌, map, eqb, length}
use Rattle.std.proofs.Math.Option.{Option, none, some, get_or}
use Rattle.std.specs.Prelude.{if◌then◌else◌}
use Rattle.queue_model.specs.Logic.{is_some}
use Rattle.queue_model.specs.Types.{Item, Stream, Queue}
use Rattle.queue_model.specs.Refusals.{Check, first_refusal, store_other, time_late, image_long}
use Rattle.queue_model.specs.Bytes.{row_bytes, Fits}

-- ------------------------------------------------------------------ the records

-- "stream records, 14 bytes: id 2, next SSN 2, next unordered MID 4, next ordered MID 4, priority 2" (Rust: HandoverOutgoingStream).
pub record StreamRecord : Type 0 where
  pub id : ℕ
  pub next_ssn : ℕ
  pub next_unordered_mid : ℕ
  pub next_ordered_mid : ℕ
  pub priority : ℕ

abbrev pub stream_widths : List ℕ
stream_widths = 2 ∷ 2 ∷ 4 ∷ 4 ∷ 2 ∷ []

abbrev pub stream_row : StreamRecord → List ℕ
stream_row r = r.id ∷ r.next_ssn ∷ r.next_unordered_mid ∷ r.next_ordered_mid ∷ r.priority ∷ []

-- "message records ...: id 2, flags 1 (a sum of 1 unordered, 2 MID given, 4 lifetime, no other bit), zero 1, payload protocol id 4, milliseconds left 4,
-- retransmissions 2,
-- SSN 2, MID 4, FSN 4, lifecycle id 8, message id 4, offset 4, payload length 4, payload" (Rust: HandoverStreamMessage).
pub record MessageRecord : Type 0 where
  pub id : ℕ
  pub flags : ℕ
  pub zero_byte : ℕ
  pub ppid : ℕ
  pub ms_left : ℕ
  pub max_retransmissions : ℕ
  pub ssn : ℕ
  pub mid : ℕ
  pub fsn : ℕ
  pub lifecycle_id : ℕ
  pub message_id : ℕ
  pub offset : ℕ
  pub payload : List ℕ

abbrev pub message_widths : List ℕ
message_widths = 2 ∷ 1 ∷ 1 ∷ 4 ∷ 4 ∷ 2 ∷ 2 ∷ 4 ∷ 4 ∷ 8 ∷ 4 ∷ 4 ∷ 4 ∷ []

abbrev pub message_row : MessageRecord → List ℕ
message_row r = r.id ∷ r.flags ∷ r.zero_byte ∷ r.ppid ∷ r.ms_left ∷ r.max_retransmissions ∷ r.ssn ∷ r.mid ∷ r.fsn ∷ r.lifecycle_id ∷ r.message_id ∷ r.offset ∷ length r.payload ∷ []

-- What an image holds (Rust: SocketHandoverState, only streams and queued messages).
pub record Handover : Type 0 where
  pub next_message_id : ℕ
  pub default_priority : ℕ
  pub streams : List StreamRecord
  pub messages : List MessageRecord

-- "Last the trailer's 20 bytes, pointing back: next message id 4, default priority 2, stream count 2, message count 2, form 2 (= 1), bytes of message
-- records 4, bytes of
-- stream records 4."
abbrev pub trailer_widths : List ℕ
trailer_widths = 4 ∷ 2 ∷ 2 ∷ 2 ∷ 2 ∷ 4 ∷ 4 ∷ []

-- ------------------------------------------------------------------ the bytes: "Numbers are unsigned, high byte first."

unfoldable pub stream_bytes : StreamRecord → List ℕ
unfolding row_bytes
stream_bytes r = row_bytes stream_widths (stream_row r)

unfoldable pub message_bytes : MessageRecord → List ℕ
unfolding row_bytes
message_bytes r = row_bytes message_widths (message_row r) ++ r.payload

unfoldable pub streams_bytes : List StreamRecord → List ℕ
unfolding stream_bytes
streams_bytes [] = []
streams_bytes (r ∷ rs) = stream_bytes r ++ streams_bytes rs

unfoldable pub messages_bytes : List MessageRecord → List ℕ
unfolding message_bytes
messages_bytes [] = []
messages_bytes (r ∷ rs) = message_bytes r ++ messages_bytes rs

unfoldable pub trailer_row : Handover → List ℕ
unfolding streams_bytes messages_bytes
trailer_row h =
    h.next_message_id ∷ h.default_priority ∷ length h.streams ∷ length h.messages ∷ 1 ∷ length (messages_bytes h.messages) ∷ length (streams_bytes h.streams) ∷ []

-- "First stream records ... Then message records ... Last the trailer".
unfoldable pub image_bytes : Handover → List ℕ
unfolding streams_bytes messages_bytes trailer_row row_bytes
image_bytes h = streams_bytes h.streams ++ (messages_bytes h.messages ++ row_bytes trailer_widths (trailer_row h))

-- Every number of a handover record is below its width's power.
abbrev pub StreamsFit : List StreamRecord → Type 0
StreamsFit [] = Unit {0}
StreamsFit (r ∷ rs) = Fits stream_widths (stream_row r) × StreamsFit rs

abbrev pub MessagesFit : List MessageRecord → Type 0
MessagesFit [] = Unit {0}
MessagesFit (r ∷ rs) = Fits message_widths (message_row r) × MessagesFit rs

pub record HandoverFits (h : Handover) : Type 0 where
  pub streams_fit : StreamsFit h.streams
  pub messages_fit : MessagesFit h.messages
  pub trailer_fits : Fits trailer_widths (trailer_row h)

-- ------------------------------------------------------------------ the record of a queue

-- "a stream with zero counters and the trailer's default priority has none" (no record).
unfoldable pub plain : ℕ → StreamRecord → Bool
plain d r = eqb r.next_ssn 0 && eqb r.next_unordered_mid 0 && eqb r.next_ordered_mid 0 && eqb r.priority d

unfoldable pub stream_record : Stream → StreamRecord
stream_record s = record { id = s.id; next_ssn = s.counters.next_ssn; next_unordered_mid = s.counters.next_unordered_mid; next_ordered_mid = s.counters.next_ordered_mid; priority = s.priority }

unfoldable pub stream_records : ℕ → List Stream → List StreamRecord
unfolding plain stream_record
stream_records d [] = []
stream_records d (s ∷ ss) = let rest = stream_records d ss in if plain d (stream_record s) then rest else stream_record s ∷ rest

-- A flag's value where it is set.
unfoldable pub bit : Bool → ℕ → ℕ
bit true n = n
bit false n = 0

-- "Milliseconds left are rounded down, 0 if past, at most 2,147,483,647."; "Fields not given are 0."
unfoldable pub ms_left_at : ℕ → Option ℕ → ℕ
ms_left_at now none = 0
ms_left_at now (some t) = min ((t - now) / 1000000) 2147483647

unfoldable pub message_record : ℕ → ℕ → Item → MessageRecord
unfolding bit is_some ms_left_at
message_record now k i =
    record {
      id = k;
      flags = bit i.unordered 1 + bit (is_some i.mid) 2 + bit (is_some i.expires_at) 4;
      zero_byte = 0;
      ppid = i.ppid;
      ms_left = ms_left_at now i.expires_at;
      max_retransmissions = i.max_retransmissions;
      ssn = i.ssn;
      mid = get_or i.mid 0;
      fsn = i.fsn;
      lifecycle_id = i.lifecycle_id;
      message_id = i.message_id;
      offset = i.offset;
      payload = i.payload;
    }

-- "message records by rising stream, in queue order".
unfoldable pub message_records : ℕ → List Stream → List MessageRecord
unfolding message_record
message_records now [] = []
message_records now (s ∷ ss) = map (message_record now s.id) s.items ++ message_records now ss

-- The handover record of a queue at a time (Rust: add_to_handover_state, but without the streams that have no record).
unfoldable pub handover : ℕ → Queue → Handover
unfolding stream_records message_records
handover now q = record { next_message_id = q.next_message_id; default_priority = q.options.default_priority; streams = stream_records q.options.default_priority q.streams; messages = message_records now q.streams }

-- The image of a queue at a time.
unfoldable pub write_image : ℕ → Queue → List ℕ
unfolding handover image_bytes
write_image now q = image_bytes (handover now q)

-- ------------------------------------------------------------------ saving

abbrev pub save_checks : ℕ → ℕ → ℕ → Queue → List Check
save_checks store room now q = store_other store q ∷ time_late now ∷ image_long room (length (write_image now q)) ∷ []

-- Saving's refusal.
unfoldable pub save_refusal : ℕ → ℕ → ℕ → Queue → Option ℕ
unfolding first_refusal write_image
save_refusal store room now q = first_refusal (save_checks store room now q)

-- What saving gives: a refusal's number, or the image, which it writes to the lent buffer. The queue stays as it is.
pub data Saving : Type 0 where
  not_saved : ℕ → Saving
  saved_as_lem : List ℕ → Saving

unfoldable pub saving_or : Option ℕ → List ℕ → Saving
saving_or none bs = saved_as_lem bs
saving_or (some n) bs = not_saved n

-- Save a queue at a time; the store and the image buffer are lent (Rust: add_to_handover_state, then the writer of the image).
unfoldable pub save : ℕ → ℕ → ℕ → Queue → Saving
unfolding save_refusal saving_or
save store room now q = saving_or (save_refusal store room now q) (write_image now q)
