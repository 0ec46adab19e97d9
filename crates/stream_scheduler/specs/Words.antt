-- What the scheduler's functions leave in the words, for every input. Assumes nothing.
use Rattle.std.specs.Prelude.{Some, None}
use Rattle.std.specs.Prelude.{ℕ, ◌+◌, ◌-◌, Bool, true, false, List, eqb, ltb, leb}
use Rattle.std.specs.Prelude.{if◌then◌else◌}
use Rattle.queue_words.specs.Active.{active_at, put_active_words, parameters_of, parameters_word}
use Rattle.queue_words.specs.Header.{options_at, scheduler_at, put_scheduler}
use Rattle.queue_words.specs.declared.active.ActiveStreamInfo.{ActiveStreamInfo}
use Rattle.queue_words.specs.declared.active.SchedulingParameters.{SchedulingParameters}
use Rattle.queue_words.specs.declared.active.SchedulingParameters.TheVariants.{RoundRobin, WeightedFairQueuing}
use Rattle.queue_words.specs.Header.{Remembered}
use Rattle.queue_words.specs.declared.header.SchedulerState.{SchedulerState}
use Rattle.active_table.specs.Groups.{least_known, refreshed}
use Rattle.active_table.specs.Rows.{seek}
use Rattle.stream_scheduler.specs.Rows.{advanced, scheduled_row}
use Rattle.stream_scheduler.specs.declared.Peeked.{Peeked}
use Rattle.stream_scheduler.specs.declared.Peeked.TheVariants.{At, Nothing, Broken}

-- Whether the words could be used, and the words after: `false` leaves them as they were (`kept-..`, proofs/Frames).
pub record Outcome : Type 0 where
  pub done : Bool
  pub next : List ℕ

abbrev pub outcome : Bool → List ℕ → Outcome
outcome d ws = record { done = d; next = ws }

-- ------------------------------------------------------------------ the choice

-- The remembered stream's row, or n.
unfoldable pub current_row : List ℕ → ℕ → Remembered → ℕ
current_row ws n None = n
current_row ws n (Some id) = seek ws id.0 n

unfoldable pub peek_among : List ℕ → ℕ → ℕ → Peeked
peek_among ws n i = if ltb i n then At i else At (least_known ws n).at

unfoldable pub peek_words : List ℕ → Peeked
unfolding peek_among
peek_words ws =
    let n = (scheduler_at ws).active in
    if ltb 256 n then Broken else if eqb n 0 then Nothing else peek_among ws n (current_row ws n (scheduler_at ws).current)

-- Whether a stream has a row.
unfoldable pub waits_in : List ℕ → ℕ → Bool
waits_in ws id = let n = (scheduler_at ws).active in if ltb 256 n then false else ltb (seek ws id n) n

-- ------------------------------------------------------------------ taking a row out

-- The remembered stream, unless it is this one; and the system time, 0 where no row is left.
abbrev pub kept_unless : ℕ → ℕ → Remembered
kept_unless k id = if eqb k id then None else Some (record { 0 = k })

abbrev pub forgotten : Remembered → ℕ → Remembered
forgotten None id = None
forgotten (Some k) id = kept_unless k.0 id

abbrev pub rested : ℕ → ℕ → ℕ
rested t n = if eqb n 0 then 0 else t

abbrev pub state_of : Remembered → ℕ → ℕ → SchedulerState
state_of c t n = record { current = c; system_virtual_time = t; active = n }

-- The last of n rows takes a row's place.
unfoldable pub dropped_row : List ℕ → ℕ → Remembered → ℕ → ℕ → List ℕ
dropped_row ws at c t n = put_scheduler (put_active_words ws at (active_at ws (n - 1))) (state_of c (rested t (n - 1)) (n - 1))

-- A stream's waiting ended, whose row is `at`, or that has none where `at` is n.
unfoldable pub taken_out : List ℕ → ℕ → ℕ → ℕ → List ℕ
taken_out ws id at n =
    let s = scheduler_at ws in
    if ltb at n then dropped_row ws at (forgotten s.current id) s.system_virtual_time n else put_scheduler ws (state_of (forgotten s.current id) (rested s.system_virtual_time n) n)

unfoldable pub remove_stream_words : List ℕ → ℕ → Outcome
remove_stream_words ws id = let n = (scheduler_at ws).active in if ltb 256 n then outcome false ws else outcome true (taken_out ws id (seek ws id n) n)

-- ------------------------------------------------------------------ setting a row

unfoldable pub set_in : List ℕ → ℕ → ℕ → ℕ → ℕ → ℕ → Outcome
set_in ws id bytes w at n =
    let s = scheduler_at ws in
    let limit = (options_at ws).payload_limit in
    if ltb at n then outcome true (put_active_words ws at (scheduled_row limit id w (active_at ws at).virtual_start_time bytes))
    else if ltb n 256 then outcome true (put_scheduler (put_active_words ws n (scheduled_row limit id w s.system_virtual_time bytes)) (state_of s.current s.system_virtual_time (n + 1)))
    else outcome false ws

unfoldable pub set_bytes_remaining_words : List ℕ → ℕ → ℕ → SchedulingParameters → Outcome
set_bytes_remaining_words ws id bytes p =
    let n = (scheduler_at ws).active in
    if ltb 256 n then outcome false ws
    else if eqb bytes 0 then outcome true (taken_out ws id (seek ws id n) n)
    else set_in ws id bytes (parameters_word p) (seek ws id n) n

-- A stream that has no row let wait: its row is a new one.
unfoldable pub begin_waiting : List ℕ → ℕ → ℕ → SchedulingParameters → Outcome
begin_waiting ws id bytes p = let n = (scheduler_at ws).active in if ltb 256 n then outcome false ws else set_in ws id bytes (parameters_word p) n n

-- ------------------------------------------------------------------ handing out

-- "Without interleaving a stream is remembered from any fragment but a last one": by turns, and not by weights.
abbrev pub remembered_in : ℕ → SchedulingParameters → Remembered
remembered_in id RoundRobin = Some (record { 0 = id })
remembered_in id (WeightedFairQueuing v) = None

abbrev pub remembered_by : ℕ → ℕ → Remembered
remembered_by id w = remembered_in id (parameters_of w)

-- A row after bytes of it are handed out, at a time, that are not its last.
abbrev pub part_row : List ℕ → ActiveStreamInfo → ℕ → ℕ → ActiveStreamInfo
part_row ws a t bytes = scheduled_row (options_at ws).payload_limit a.stream_id.0 a.parameters t (a.bytes_remaining - bytes)

unfoldable pub accept_row : List ℕ → ℕ → ℕ → ℕ → List ℕ
accept_row ws at bytes n =
    let a = active_at ws at in
    let t = advanced a.parameters a.virtual_start_time bytes in
    if leb a.bytes_remaining bytes then dropped_row ws at None t n else put_scheduler (put_active_words ws at (part_row ws a t bytes)) (state_of (remembered_by a.stream_id.0 a.parameters) t n)

-- The next choice finds the row's group fresh, and one stale group fewer.
unfoldable pub accept_at : List ℕ → ℕ → ℕ → Outcome
unfolding accept_row
accept_at ws at bytes = let n = (scheduler_at ws).active in if ltb 256 n then outcome false ws else if leb n at then outcome false ws else outcome true (refreshed (accept_row ws at bytes n) at)
