-- What the whole-queue reset must not leave undone, on the words: the scheduler's answers that its walk drops (`rescheduled`), step by step. That all are `true` is proved in proofs/Settled, on any words.
-- Assumes nothing.
use Rattle.std.specs.Prelude.{ℕ, ◌<◌, Bool, true, false, List, ◌≡◌, ltb, eqb}
use Rattle.queue_words.specs.Flags.{pick}
use Rattle.queue_words.specs.Header.{options_at, totals_at, put_totals}
use Rattle.queue_words.specs.Known.{known_at, known_count}
use Rattle.queue_words.specs.Streams.{stream_at_words, put_stream_words}
use Rattle.queue_words.specs.declared.known.Known.{Known}
use Rattle.queue_words.specs.declared.streams.OutgoingStream.{OutgoingStream}
use Rattle.queue_streams.specs.Settled.{reschedule_done}
use Rattle.queue_restarts.specs.Reset.{put_back, whole_stream, whole_head_words, reset_all, with_total, sum_of}

-- A step (`reset_in`, specs/Reset): "every stream with messages then waits". One that is not let wait has no message: its first place is 1,024, and none outside the table.
unfoldable pub reset_done_in : Bool → List ℕ → Bool → ℕ → ℕ → OutgoingStream → Bool
reset_done_in strict ws il id place s =
    pick (ltb s.first 1024)
    (reschedule_done (whole_head_words strict (put_stream_words ws place (whole_stream s (put_back ws s.first))) s.first) il id s.first s.priority)
    (eqb s.first 1024)

-- No known stream is passed over: its place is in its table.
unfoldable pub reset_done_at : Bool → List ℕ → Bool → Known → Bool
reset_done_at strict ws il k = pick (ltb 255 k.place) false (reset_done_in strict ws il k.id.0 k.place (stream_at_words ws k.place))

-- Each of the first n steps is done, with the words as the walk has them there.
abbrev pub ResetSteps : Bool → Bool → List ℕ → ℕ → Type 0
ResetSteps strict il ws n = (i : ℕ) → i < n → reset_done_at strict (reset_all strict il ws i) il (known_at (reset_all strict il ws i) i) ≡ true

-- The words from which the walk starts: the new total is set.
abbrev pub risen : List ℕ → ℕ → List ℕ
risen ws total = put_totals ws (with_total (totals_at ws) total)

-- Every step is done.
abbrev pub ResetSettled : List ℕ → Type 0
ResetSettled ws = ResetSteps (options_at ws).strict_restart (totals_at ws).interleaving (risen ws (sum_of ws).total) (known_count ws)
