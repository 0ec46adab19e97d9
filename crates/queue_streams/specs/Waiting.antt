-- Letting streams wait, on the words. Assumes nothing.
use Rattle.std.specs.Prelude.{ℕ, zero, suc, ◌+◌, ◌-◌, Bool, true, false, not, List, ltb, leb, eqb}
use Rattle.queue_words.specs.Flags.{pick}
use Rattle.queue_words.specs.Header.{scheduler_at}
use Rattle.queue_words.specs.Items.{item_at}
use Rattle.queue_words.specs.Known.{known_at, known_count}
use Rattle.queue_words.specs.Streams.{is_resetting_words, stream_at_words}
use Rattle.queue_words.specs.declared.active.SchedulingParameters.{SchedulingParameters}
use Rattle.queue_words.specs.declared.active.SchedulingParameters.TheVariants.{RoundRobin, WeightedFairQueuing}
use Rattle.queue_words.specs.declared.known.Known.{Known}
use Rattle.queue_words.specs.declared.streams.OutgoingStream.{OutgoingStream}
use Rattle.queue_words.specs.declared.streams.PauseState.{PauseState}
use Rattle.stream_scheduler.specs.Words.{waits_in, set_bytes_remaining_words}
use Rattle.queue_streams.specs.declared.waiting.Tally.{Tally}

-- The remaining bytes of the message in row i.
abbrev pub remaining_at : List ℕ → ℕ → ℕ
remaining_at ws i = (item_at ws i).length - (item_at ws i).offset

-- The bytes with which a stream waits whose first message is in this row: 0 where it has none.
unfoldable pub head_size_words : List ℕ → ℕ → ℕ
head_size_words ws first = pick (ltb first 1024) (remaining_at ws first) 0

-- The weight that the scheduler reads: the priority with interleaving, none without.
abbrev pub parameters_for : Bool → ℕ → SchedulingParameters
parameters_for true p = WeightedFairQueuing p
parameters_for false p = RoundRobin

-- A stream let wait with its first message, or its waiting ended where it has none.
unfoldable pub rescheduled : List ℕ → Bool → ℕ → ℕ → ℕ → List ℕ
rescheduled ws il id first p = (set_bytes_remaining_words ws id (head_size_words ws first) (parameters_for il p)).next

-- ------------------------------------------------------------------ room for all

-- A call that lets streams wait anew settles first that their places are in their tables, and that the rows suffice: those that there are, and one for
-- each stream with messages that has none. Where not all streams count, the resetting ones do.
unfoldable pub passed_over : Bool → PauseState → Bool
passed_over all state = pick all false (not (is_resetting_words state))

unfoldable pub tally_stream : List ℕ → Bool → ℕ → OutgoingStream → Tally → Tally
tally_stream ws all id s t =
    pick (passed_over all s.pause_state) t
    (pick (ltb 1024 s.first) (record { fits = false; rows = t.rows })
    (pick (eqb s.first 1024) t
    (pick (waits_in ws id) t (record { fits = t.fits; rows = t.rows + 1 }))))

unfoldable pub tally_known : List ℕ → Bool → Known → Tally → Tally
tally_known ws all k t = pick (ltb 255 k.place) (record { fits = false; rows = t.rows }) (tally_stream ws all k.id.0 (stream_at_words ws k.place) t)

unfoldable pub tally : List ℕ → Bool → ℕ → Tally
tally ws all zero = record { fits = true; rows = (scheduler_at ws).active }
tally ws all (suc i) = tally_known ws all (known_at ws i) (tally ws all i)

unfoldable pub room_for : List ℕ → Bool → Bool
room_for ws all =
    pick (ltb 256 (known_count ws)) false
    (pick (ltb 256 (scheduler_at ws).active) false
    (pick (tally ws all (known_count ws)).fits (leb (tally ws all (known_count ws)).rows 256) false))
