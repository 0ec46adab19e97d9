-- Where the records of an image stand, and the model's records there. Assumes nothing.
use Rattle.std.specs.Prelude.{ℕ, zero, suc, ◌+◌, ◌*◌, List, take, drop}
use Rattle.queue_model.specs.Bytes.{bytes_row}
use Rattle.queue_model.specs.Image.{StreamRecord, MessageRecord, stream_widths, message_widths}
use Rattle.queue_model.specs.Reader.{stream_of_row, message_of_row}
use Rattle.queue_state.specs.Model.{tab}
use Rattle.handover_records.specs.Records.{message_at}

-- ------------------------------------------------------------------ streams: 14 bytes each

-- the model's stream record in the bytes from `at` on
unfoldable pub stream_record_at : List ℕ → ℕ → StreamRecord
stream_record_at bs at = stream_of_row (bytes_row stream_widths (drop at bs))

-- n stream records from `start` on
unfoldable pub streams_from : List ℕ → ℕ → ℕ → List StreamRecord
streams_from bs start n = tab (λ k. stream_record_at bs (start + k * 14)) n

-- ------------------------------------------------------------------ messages: 44 bytes and the payload

-- the place behind the message record at `at`
abbrev pub behind : List ℕ → ℕ → ℕ
behind bs at = at + 44 + (message_at bs at).length

-- the place of message record k, the first one's being `start`
unfoldable pub message_place : List ℕ → ℕ → ℕ → ℕ
message_place bs start zero = start
message_place bs start (suc k) = behind bs (message_place bs start k)

-- the model's message record in the bytes from `at` on
unfoldable pub record_at : List ℕ → ℕ → MessageRecord
record_at bs at = message_of_row (bytes_row message_widths (drop at bs)) (take (message_at bs at).length (drop (at + 44) bs))

-- n message records from `start` on
unfoldable pub messages_from : List ℕ → ℕ → ℕ → List MessageRecord
messages_from bs start n = tab (λ k. record_at bs (message_place bs start k)) n
