-- The records of an image as plain numbers: a row of numbers at the widths that the model's Image gives. Assumes nothing.
use Rattle.std.specs.Prelude.{ℕ, List, [], ◌∷◌, get_or, drop}
use Rattle.queue_model.specs.Bytes.{bytes_row}
use Rattle.queue_model.specs.Image.{stream_widths, message_widths, trailer_widths}
use Rattle.handover_records.specs.declared.records.HandoverOutgoingStream.{HandoverOutgoingStream}
use Rattle.handover_records.specs.declared.records.HandoverStreamMessage.{HandoverStreamMessage}
use Rattle.handover_records.specs.declared.records.Trailer.{Trailer}

-- ------------------------------------------------------------------ streams

abbrev pub stream_of : List ℕ → HandoverOutgoingStream
stream_of r = record {
  id = get_or r 0 0;
  next_ssn = get_or r 1 0;
  next_unordered_mid = get_or r 2 0;
  next_ordered_mid = get_or r 3 0;
  priority = get_or r 4 0;
}

abbrev pub stream_row_words : HandoverOutgoingStream → List ℕ
stream_row_words s = s.id ∷ s.next_ssn ∷ s.next_unordered_mid ∷ s.next_ordered_mid ∷ s.priority ∷ []

-- the stream record in the 14 bytes from `at` on
unfoldable pub stream_at_words : List ℕ → ℕ → HandoverOutgoingStream
stream_at_words bs at = stream_of (bytes_row stream_widths (drop at bs))

-- ------------------------------------------------------------------ messages

abbrev pub message_of_words : List ℕ → HandoverStreamMessage
message_of_words r = record {
  id = get_or r 0 0;
  flags = get_or r 1 0;
  zero = get_or r 2 0;
  ppid = get_or r 3 0;
  ms_left = get_or r 4 0;
  max_retransmissions = get_or r 5 0;
  ssn = get_or r 6 0;
  mid = get_or r 7 0;
  fsn = get_or r 8 0;
  lifecycle_id = get_or r 9 0;
  message_id = get_or r 10 0;
  offset = get_or r 11 0;
  length = get_or r 12 0;
}

abbrev pub message_row_words : HandoverStreamMessage → List ℕ
message_row_words m = m.id ∷ m.flags ∷ m.zero ∷ m.ppid ∷ m.ms_left ∷ m.max_retransmissions ∷ m.ssn ∷ m.mid ∷ m.fsn ∷ m.lifecycle_id ∷ m.message_id ∷ m.offset ∷ m.length ∷ []

-- the message record in the 44 bytes from `at` on, without its payload
unfoldable pub message_at : List ℕ → ℕ → HandoverStreamMessage
message_at bs at = message_of_words (bytes_row message_widths (drop at bs))

-- ------------------------------------------------------------------ the trailer

abbrev pub trailer_of : List ℕ → Trailer
trailer_of r = record {
  next_message_id = get_or r 0 0;
  default_priority = get_or r 1 0;
  streams = get_or r 2 0;
  messages = get_or r 3 0;
  form = get_or r 4 0;
  messages_size = get_or r 5 0;
  streams_size = get_or r 6 0;
}

abbrev pub trailer_row : Trailer → List ℕ
trailer_row t = t.next_message_id ∷ t.default_priority ∷ t.streams ∷ t.messages ∷ t.form ∷ t.messages_size ∷ t.streams_size ∷ []

-- the trailer in the 20 bytes from `at` on
unfoldable pub trailer_at : List ℕ → ℕ → Trailer
trailer_at bs at = trailer_of (bytes_row trailer_widths (drop at bs))
