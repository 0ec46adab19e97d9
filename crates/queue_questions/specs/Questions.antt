-- "The questions are the calls that only ask", on the words. Assumes nothing.
use Rattle.std.specs.Prelude.{ℕ, zero, suc, ◌-◌, Bool, true, false, List, ltb, eqb, Result, Ok, Err}
use Rattle.queue_model.specs.Questions.{Room, free_store, waiting_messages, known_streams}
use Rattle.queue_words.specs.Flags.{pick}
use Rattle.queue_words.specs.Find.{find_stream_words}
use Rattle.queue_words.specs.Header.{options_at, totals_at}
use Rattle.queue_words.specs.Known.{known_at, known_count}
use Rattle.queue_words.specs.Streams.{is_paused_words, stream_at_words}
use Rattle.queue_words.specs.declared.known.Found.{Found}
use Rattle.queue_words.specs.declared.known.Found.TheVariants.{At, Gap, Broken}
use Rattle.queue_words.specs.declared.streams.OutgoingStream.{OutgoingStream}
use Rattle.stream_scheduler.specs.Words.{peek_words}
use Rattle.stream_scheduler.specs.declared.Peeked.{Peeked}
use Rattle.stream_scheduler.specs.declared.Peeked.TheVariants as peeked
use Rattle.types.specs.declared.refusal.Broken as types
use Rattle.queue_streams.specs.Known.{new_stream_words}
use Rattle.queue_streams.specs.Flag.{Flag}
use Rattle.queue_streams.specs.Flag as flag
use Rattle.queue_streams.specs.Number.{Number}
use Rattle.queue_streams.specs.Number as number
use Rattle.queue_questions.specs.Looked.{Looked}
use Rattle.queue_questions.specs.Looked as looked

-- What the code answers.
abbrev pub as_looked : Result OutgoingStream types.Broken → Looked
as_looked (Ok s) = looked.Stream s
as_looked (Err b) = looked.Broken

-- The stream of an id: the known one, or a new one.
abbrev pub looked_at : List ℕ → Found → Looked
looked_at ws (At position row) = looked.Stream (stream_at_words ws row)
looked_at ws (Gap position) = looked.Stream (new_stream_words (options_at ws))
looked_at ws Broken = looked.Broken

unfoldable pub stream_or_new : List ℕ → ℕ → Looked
stream_or_new ws id = looked_at ws (find_stream_words ws id)

-- One number of a stream; 16: "a place kept in the state lies outside its table".
abbrev pub asked : (OutgoingStream → ℕ) → Looked → Number
asked f (looked.Stream s) = number.Value (f s)
asked f looked.Broken = number.Refused 16

-- "A call of its own answers the priority last set or restored, the default where there is none, and changes nothing."
unfoldable pub priority_of_words : List ℕ → ℕ → Number
priority_of_words ws id = asked (λ (s : OutgoingStream). s.priority) (stream_or_new ws id)

-- A stream's amount, 0 where it is not known.
unfoldable pub amount_of_words : List ℕ → ℕ → Number
amount_of_words ws id = asked (λ (s : OutgoingStream). s.buffered_amount) (stream_or_new ws id)

-- A stream's threshold, the default where it is not known.
unfoldable pub threshold_of : List ℕ → ℕ → Number
threshold_of ws id = asked (λ (s : OutgoingStream). s.low_threshold) (stream_or_new ws id)

-- The total, and whether it is 0.
unfoldable pub total_of : List ℕ → ℕ
total_of ws = (totals_at ws).total

unfoldable pub empty_of : List ℕ → Bool
empty_of ws = eqb (totals_at ws).total 0

-- Whether a stream waits.
abbrev pub waits : Peeked → Flag
waits (peeked.At i) = flag.Value true
waits peeked.Nothing = flag.Value false
waits peeked.Broken = flag.Refused 16

unfoldable pub data_of : List ℕ → Flag
data_of ws = waits (peek_words ws)

-- Whether a stream is paused among m known ones from position i on.
unfoldable pub ready_among : List ℕ → ℕ → ℕ → Flag
ready_among ws i zero = flag.Value false
ready_among ws i (suc m) =
    pick (ltb 255 (known_at ws i).place) (flag.Refused 16)
    (pick (is_paused_words (stream_at_words ws (known_at ws i).place).pause_state) (flag.Value true) (ready_among ws (suc i) m))

unfoldable pub ready_of : List ℕ → Flag
ready_of ws = pick (ltb 256 (known_count ws)) (flag.Refused 16) (ready_among ws 0 (known_count ws))

-- "Readiness is 2 if handover with waiting data is off and the total is above 0, else 0."
unfoldable pub readiness_of : List ℕ → ℕ
readiness_of ws = pick (options_at ws).handover_with_data 0 (pick (ltb 0 (totals_at ws).total) 2 0)

-- How much there is of what may run out: "free bytes count together", of a store that is used up none; "1,024 waiting messages"; "256 known streams".
unfoldable pub room_of : Room → List ℕ → ℕ
room_of free_store ws = (options_at ws).store_length - (totals_at ws).used
room_of waiting_messages ws = (totals_at ws).waiting
room_of known_streams ws = (totals_at ws).known
