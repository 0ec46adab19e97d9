-- What commit, rollback and switching interleaving must not leave undone, on the words. Each asks for room first (`room_for`, specs/Waiting) and then
-- lets stream after stream wait, dropping the scheduler's
-- answer (`rescheduled`). Here the dropped answers are written out, step by step; that all are `true` is proved in proofs/Settled, on any words. Assumes
-- nothing.
use Rattle.std.specs.Prelude.{ℕ, ◌<◌, Bool, true, false, List, ◌≡◌, ltb, eqb}
use Rattle.queue_words.specs.Flags.{pick}
use Rattle.queue_words.specs.Header.{totals_at, put_totals}
use Rattle.queue_words.specs.Known.{known_at, known_count}
use Rattle.queue_words.specs.Streams.{is_resetting_words, stream_at_words, put_stream_words}
use Rattle.queue_words.specs.declared.known.Known.{Known}
use Rattle.queue_words.specs.declared.streams.OutgoingStream.{OutgoingStream}
use Rattle.stream_scheduler.specs.Words.{set_bytes_remaining_words}
use Rattle.queue_streams.specs.Waiting.{head_size_words, parameters_for}
use Rattle.queue_streams.specs.Restart.{opened, reopened_all, with_interleaving, switched_all}

-- The answer that `rescheduled` drops: whether the scheduler let the stream wait, or ended its waiting where its first message has nothing left.
unfoldable pub reschedule_done : List ℕ → Bool → ℕ → ℕ → ℕ → Bool
reschedule_done ws il id first p = (set_bytes_remaining_words ws id (head_size_words ws first) (parameters_for il p)).done

-- A step of commit or rollback (`reopened_in`, specs/Restart): "both let a stream with messages wait". A resetting stream that is not let wait has no
-- message: its first place is 1,024, and none outside the table.
unfoldable pub reopen_done_in : Bool → Bool → List ℕ → ℕ → ℕ → OutgoingStream → Bool
reopen_done_in zeroed il ws id place s =
    pick (is_resetting_words s.pause_state)
    (pick (ltb s.first 1024) (reschedule_done (put_stream_words ws place (opened zeroed s)) il id s.first s.priority) (eqb s.first 1024))
    true

-- No known stream is passed over: its place is in its table.
unfoldable pub reopen_done_at : Bool → Bool → List ℕ → Known → Bool
reopen_done_at zeroed il ws k = pick (ltb 255 k.place) false (reopen_done_in zeroed il ws k.id.0 k.place (stream_at_words ws k.place))

-- "For every resetting stream": each of the first n steps is done, with the words as the walk has them there.
abbrev pub ReopenSteps : Bool → Bool → List ℕ → ℕ → Type 0
ReopenSteps zeroed il ws n = (i : ℕ) → i < n → reopen_done_at zeroed il (reopened_all zeroed il ws i) (known_at (reopened_all zeroed il ws i) i) ≡ true

-- Every step of commit (`true`) or rollback.
abbrev pub ReopenSettled : Bool → List ℕ → Type 0
ReopenSettled zeroed ws = ReopenSteps zeroed (totals_at ws).interleaving ws (known_count ws)

-- A step of switching (`switched_at`, specs/Restart): every stream's weight is read, and none is passed over.
unfoldable pub switch_done_at : Bool → List ℕ → Known → Bool
switch_done_at il ws k =
    pick (ltb 255 k.place) false
    (pick (ltb 1024 (stream_at_words ws k.place).first) false (reschedule_done ws il k.id.0 (stream_at_words ws k.place).first (stream_at_words ws k.place).priority))

-- Each of the first n steps is done.
abbrev pub SwitchSteps : Bool → List ℕ → ℕ → Type 0
SwitchSteps il ws n = (i : ℕ) → i < n → switch_done_at il (switched_all il ws i) (known_at (switched_all il ws i) i) ≡ true

-- The words from which the walk of switching starts: the choice is set.
abbrev pub chosen : Bool → List ℕ → List ℕ
chosen b ws = put_totals ws (with_interleaving (totals_at ws) b)

-- Every step of switching to this choice is done.
abbrev pub SwitchSettled : Bool → List ℕ → Type 0
SwitchSettled b ws = SwitchSteps b (chosen b ws) (known_count ws)
