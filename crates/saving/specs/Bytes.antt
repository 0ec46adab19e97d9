-- The bytes of a queue's image, on the words and the store. Assumes nothing.
use Rattle.std.specs.Prelude.{ℕ, zero, suc, ◌+◌, ◌*◌, List, [], ◌∷◌, ◌++◌}
use Rattle.queue_model.specs.Bytes.{row_bytes}
use Rattle.queue_model.specs.Image.{stream_widths, message_widths, trailer_widths}
use Rattle.queue_words.specs.Flags.{pick}
use Rattle.queue_words.specs.Header.{options_at, totals_at}
use Rattle.queue_words.specs.Items.{item_at}
use Rattle.queue_words.specs.Known.{id_at}
use Rattle.queue_words.specs.Streams.{stream_at_words}
use Rattle.queue_state.specs.Model.{row_at}
use Rattle.payload_store.specs.Good.{payload_of}
use Rattle.handover_records.specs.Records.{stream_row_words, message_row_words, trailer_row}
use Rattle.saving.specs.declared.measuring.Counts.{Counts}
use Rattle.saving.specs.declared.measuring.Tally.{Tally}
use Rattle.saving.specs.Measure.{is_plain, counts_of}
use Rattle.saving.specs.Records.{stream_record_words, message_record_words, trailer_of}
use Rattle.saving.specs.Sound.{places_at}

-- ------------------------------------------------------------------ stream records

unfoldable pub stream_bytes_words : List ℕ → ℕ → List ℕ
stream_bytes_words ws i =
    pick (is_plain (stream_at_words ws (row_at ws i)) (options_at ws).default_priority) []
    (row_bytes stream_widths (stream_row_words (stream_record_words (id_at ws i) (stream_at_words ws (row_at ws i)))))

-- "First stream records ..; ids rise": those of the known streams from position i on, so many.
unfoldable pub streams_from : List ℕ → ℕ → ℕ → List ℕ
streams_from ws i zero = []
streams_from ws i (suc f) = stream_bytes_words ws i ++ streams_from ws (i + 1) f

-- ------------------------------------------------------------------ message records

-- the message in place x of the stream id
unfoldable pub item_bytes : List ℕ → List ℕ → ℕ → ℕ → ℕ → List ℕ
item_bytes ws st time id x = row_bytes message_widths (message_row_words (message_record_words (item_at ws x) id time)) ++ payload_of ws st x

unfoldable pub chain_bytes : List ℕ → List ℕ → ℕ → ℕ → List ℕ → List ℕ
chain_bytes ws st time id [] = []
chain_bytes ws st time id (x ∷ xs) = item_bytes ws st time id x ++ chain_bytes ws st time id xs

-- "Then message records by rising stream, in queue order".
unfoldable pub messages_from : List ℕ → List ℕ → ℕ → ℕ → ℕ → List ℕ
messages_from ws st time i zero = []
messages_from ws st time i (suc f) = chain_bytes ws st time (id_at ws i) (places_at ws i) ++ messages_from ws st time (i + 1) f

-- ------------------------------------------------------------------ the image

unfoldable pub trailer_bytes : List ℕ → Tally → List ℕ
trailer_bytes ws t = row_bytes trailer_widths (trailer_row (trailer_of ws t))

unfoldable pub image_bytes_words : List ℕ → List ℕ → ℕ → Tally → List ℕ
image_bytes_words ws st time t = streams_from ws 0 (totals_at ws).known ++ (messages_from ws st time 0 (totals_at ws).known ++ trailer_bytes ws t)

-- its size, as the records are counted
abbrev pub counts_size : Counts → ℕ
counts_size n = n.streams * 14 + n.bytes + 20

-- as the first pass finds it
abbrev pub image_size : Tally → ℕ
image_size t = counts_size (counts_of t)
