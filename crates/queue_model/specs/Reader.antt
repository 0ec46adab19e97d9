-- Reading a changeover image: its handover record, or none where it breaks a rule (refusal 13). Document 01, "The changeover image". Assumes nothing.
use Rattle.std.specs.Prelude.{ℕ, zero, suc, ◌+◌, ◌-◌, ◌*◌, ◌/◌, ◌%◌, Bool, true, not, ◌&&◌, List, [], ◌∷◌, eqb, ltb, leb, length, take, drop, get_or}
use Rattle.std.proofs.Math.Option.{Option, none, some}
use Rattle.queue_model.specs.Logic.{implies, all_true, only_if, and_then}
use Rattle.queue_model.specs.Refusals.{max_payload}
use Rattle.queue_model.specs.Bytes.{bytes_row}
use Rattle.queue_model.specs.Image.{StreamRecord, MessageRecord, Handover, stream_widths, message_widths, trailer_widths, plain}

-- ------------------------------------------------------------------ the records from their numbers and bytes

abbrev pub stream_of_row : List ℕ → StreamRecord
stream_of_row r = record { id = get_or r 0 0; next_ssn = get_or r 1 0; next_unordered_mid = get_or r 2 0; next_ordered_mid = get_or r 3 0; priority = get_or r 4 0 }

abbrev pub message_of_row : List ℕ → List ℕ → MessageRecord
message_of_row r p =
    record {
      id = get_or r 0 0;
      flags = get_or r 1 0;
      zero_byte = get_or r 2 0;
      ppid = get_or r 3 0;
      ms_left = get_or r 4 0;
      max_retransmissions = get_or r 5 0;
      ssn = get_or r 6 0;
      mid = get_or r 7 0;
      fsn = get_or r 8 0;
      lifecycle_id = get_or r 9 0;
      message_id = get_or r 10 0;
      offset = get_or r 11 0;
      payload = p;
    }

-- So many stream records, 14 bytes each.
unfoldable pub read_streams : ℕ → List ℕ → List StreamRecord
unfolding bytes_row
read_streams zero bs = []
read_streams (suc n) bs = stream_of_row (bytes_row stream_widths bs) ∷ read_streams n (drop 14 bs)

-- So many message records that fill their part: none where they do not. `r` is the first one's row, and `p` its payload length.
unfoldable pub read_messages : ℕ → List ℕ → Option (List MessageRecord)
unfolding only_if and_then bytes_row
read_messages zero [] = some []
read_messages zero (b ∷ bs) = none
read_messages (suc n) bs =
    let r = bytes_row message_widths bs in
    let p = get_or r 12 0 in
    let more = read_messages n (drop (44 + p) bs) in
    only_if (leb (44 + p) (length bs)) (and_then more (λ rs. some (message_of_row r (take p (drop 44 bs)) ∷ rs)))

-- ------------------------------------------------------------------ the rules

-- "ids rise; a stream with zero counters and the trailer's default priority has none".
unfoldable pub streams_right : ℕ → List StreamRecord → Bool
unfolding plain
streams_right d [] = true
streams_right d (r ∷ []) = not (plain d r)
streams_right d (r ∷ r' ∷ rs) = not (plain d r) && ltb r.id r'.id && streams_right d (r' ∷ rs)

-- "a sum of 1 unordered, 2 MID given, 4 lifetime": whether the flag of value n is in the sum f.
unfoldable pub has_flag : ℕ → ℕ → Bool
has_flag n f = eqb ((f / n) % 2) 1

-- The rules of one message record; `head` says that it is its stream's first.
unfoldable pub message_right : Bool → MessageRecord → Bool
unfolding has_flag implies
message_right head r = all_true (
    -- "no other bit", "zero 1".
    leb r.flags 7
    ∷ eqb r.zero_byte 0
    -- "at most 2,147,483,647".
    ∷ leb r.ms_left 2147483647
    -- "Payload length is 1 to 262,144 and offset below it."
    ∷ leb 1 (length r.payload)
    ∷ leb (length r.payload) max_payload
    ∷ ltb r.offset (length r.payload)
    -- "Fields not given are 0." "Without MID, the SSN, offset and FSN are 0."
    ∷ implies (not (has_flag 4 r.flags)) (eqb r.ms_left 0)
    ∷ implies (not (has_flag 2 r.flags)) (eqb r.mid 0 && eqb r.ssn 0 && eqb r.offset 0 && eqb r.fsn 0)
    -- "an unordered one has SSN 0", "Only a stream's first message has a MID".
    ∷ implies (has_flag 1 r.flags) (eqb r.ssn 0)
    ∷ implies (has_flag 2 r.flags) head
    ∷ [])

-- "by rising stream, in queue order": after a message of stream k, stream ids do not fall, and a message is its stream's first where the id rises.
unfoldable pub messages_right_after : ℕ → List MessageRecord → Bool
unfolding message_right
messages_right_after k [] = true
messages_right_after k (r ∷ rs) = leb k r.id && message_right (ltb k r.id) r && messages_right_after r.id rs

unfoldable pub messages_right : List MessageRecord → Bool
unfolding messages_right_after message_right
messages_right [] = true
messages_right (r ∷ rs) = message_right true r && messages_right_after r.id rs

unfoldable pub handover_right : Handover → Bool
unfolding streams_right messages_right
handover_right h = streams_right h.default_priority h.streams && messages_right h.messages

-- A handover record that keeps the rules.
unfoldable pub only_right : Handover → Option Handover
unfolding only_if handover_right
only_right h = only_if (handover_right h) (some h)

-- ------------------------------------------------------------------ the whole image

-- The trailer's numbers, by name, in its row.
abbrev pub next_message_id_in : List ℕ → ℕ
next_message_id_in t = get_or t 0 0

abbrev pub default_priority_in : List ℕ → ℕ
default_priority_in t = get_or t 1 0

abbrev pub stream_count_in : List ℕ → ℕ
stream_count_in t = get_or t 2 0

abbrev pub message_count_in : List ℕ → ℕ
message_count_in t = get_or t 3 0

abbrev pub form_in : List ℕ → ℕ
form_in t = get_or t 4 0

abbrev pub messages_size_in : List ℕ → ℕ
messages_size_in t = get_or t 5 0

abbrev pub streams_size_in : List ℕ → ℕ
streams_size_in t = get_or t 6 0

-- "form 2 (= 1)"; "All must agree and fill the image."
unfoldable pub trailer_right : List ℕ → List ℕ → Bool
trailer_right t bs = eqb (form_in t) 1 && eqb (streams_size_in t + messages_size_in t + 20) (length bs) && eqb (streams_size_in t) (14 * stream_count_in t)

-- The handover record of an image with the trailer's row t: streams, messages and rules.
unfoldable pub read_parts : List ℕ → List ℕ → Option Handover
unfolding read_streams read_messages only_right only_if and_then trailer_right
read_parts t bs =
    let h = and_then (read_messages (message_count_in t) (take (messages_size_in t) (drop (streams_size_in t) bs)))
    (λ ms. only_right (record { next_message_id = next_message_id_in t; default_priority = default_priority_in t; streams = read_streams (stream_count_in t) bs; messages = ms })) in
    only_if (trailer_right t bs) h

-- Read an image: its handover record, or none where it breaks a rule (13). Document 02's 6/13 adds a rule for strict queues: `mid_too_early` (Restore).
unfoldable pub read_image : List ℕ → Option Handover
unfolding read_parts bytes_row only_if
read_image bs = let h = read_parts (bytes_row trailer_widths (drop (length bs - 20) bs)) bs in only_if (leb 20 (length bs)) h
