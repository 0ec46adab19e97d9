-- Restoring, last: the stream that is remembered. Document 02, 10/13. Assumes nothing.
use Rattle.std.specs.Prelude.{Some, None}
use Rattle.std.specs.Prelude.{ℕ, zero, suc, Bool, false, List, ltb}
use Rattle.queue_words.specs.Flags.{pick}
use Rattle.queue_words.specs.Header.{scheduler_at, put_scheduler}
use Rattle.queue_words.specs.Items.{item_at}
use Rattle.queue_words.specs.Known.{known_at}
use Rattle.queue_words.specs.Streams.{stream_at_words}
use Rattle.queue_words.specs.Header.{Remembered}
use Rattle.queue_words.specs.declared.header.SchedulerState.{SchedulerState}
use Rattle.queue_words.specs.declared.known.Known.{Known}

-- "whose first message is half-sent"; a place outside its table, which cannot be, is passed over
unfoldable pub half_sent_at : List ℕ → Known → Bool
half_sent_at ws k = pick (ltb 255 k.place) false (pick (ltb (stream_at_words ws k.place).first 1024) (ltb 0 (item_at ws (stream_at_words ws k.place).first).offset) false)

-- "the smallest id if several are": the first of the n known streams from position i on, which stand by rising id
unfoldable pub first_half_sent_words : List ℕ → ℕ → ℕ → Remembered
first_half_sent_words ws i zero = None
first_half_sent_words ws i (suc n) = pick (half_sent_at ws (known_at ws i)) (Some (known_at ws i).id) (first_half_sent_words ws (suc i) n)

abbrev pub remembering : SchedulerState → Remembered → SchedulerState
remembering s r = record { current = r; system_virtual_time = s.system_virtual_time; active = s.active }

-- "shall remember the stream": of n known ones
unfoldable pub recalled : List ℕ → ℕ → List ℕ
recalled ws n = put_scheduler ws (remembering (scheduler_at ws) (first_half_sent_words ws 0 n))
