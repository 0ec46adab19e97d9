-- The scheduler that words stand for, and when words are good for it. Assumes nothing.
use Rattle.std.specs.Prelude.{Some, None}
use Rattle.std.specs.Prelude.{ℕ, zero, suc, ◌≤◌, ◌<◌, ◌≡◌, true, List, [], length}
use Rattle.std.proofs.Math.Option.{Option, none, some}
use Rattle.queue_model.specs.Types.{Active, Scheduler}
use Rattle.queue_model.specs.Scheduler.{put_active}
use Rattle.queue_words.specs.Active.{active_at}
use Rattle.queue_words.specs.Header.{options_at, totals_at, scheduler_at}
use Rattle.queue_words.specs.Items.{item_at}
use Rattle.queue_words.specs.Known.{known_at}
use Rattle.queue_words.specs.Streams.{stream_at_words}
use Rattle.queue_words.specs.declared.active.ActiveStreamInfo.{ActiveStreamInfo}
use Rattle.queue_words.specs.declared.active.SchedulingParameters.{SchedulingParameters}
use Rattle.queue_words.specs.declared.active.SchedulingParameters.TheVariants.{RoundRobin, WeightedFairQueuing}
use Rattle.queue_words.specs.Header.{Remembered}
use Rattle.queue_words.specs.declared.header.SchedulerState.{SchedulerState}
use Rattle.active_table.specs.Groups.{Leasts}
use Rattle.stream_scheduler.specs.Rows.{weight_at}
use Rattle.stream_scheduler.specs.Words.{Outcome}
use Rattle.stream_scheduler.specs.declared.Peeked.{Peeked}
use Rattle.stream_scheduler.specs.declared.Peeked.TheVariants.{At, Nothing}

-- The entry that a row stands for.
abbrev pub entry_of : ActiveStreamInfo → Active
entry_of a = record { stream_id = a.stream_id.0; weight = weight_at a.parameters; start = a.virtual_start_time; finish = a.virtual_finish_time; bytes_remaining = a.bytes_remaining }

unfoldable pub entry_at : List ℕ → ℕ → Active
entry_at ws i = entry_of (active_at ws i)

-- The table of n entries, put one after another: the order of the rows does not show.
unfoldable pub table_of : (ℕ → Active) → ℕ → List Active
table_of e zero = []
table_of e (suc n) = put_active (e n) (table_of e n)

-- The remembered stream.
unfoldable pub current_of : Remembered → Option ℕ
current_of None = none
current_of (Some id) = some id.0

-- The scheduler that the words stand for.
unfoldable pub model_scheduler : List ℕ → Scheduler
model_scheduler ws =
    let s = scheduler_at ws in
    record { payload_limit = (options_at ws).payload_limit; current = current_of s.current; system_time = s.system_virtual_time; active = table_of (entry_at ws) s.active }

-- No two of the first n entries are of one stream.
abbrev pub Unlike : (ℕ → Active) → ℕ → Type 0
Unlike e n = (i j : ℕ) → i < n → j < n → (e i).stream_id ≡ (e j).stream_id → i ≡ j

pub record GoodScheduler (ws : List ℕ) : Type 0 where
  pub long : length ws ≡ 20768
  pub few : (scheduler_at ws).active ≤ 256
  pub unlike : Unlike (entry_at ws) (scheduler_at ws).active
  pub leasts : Leasts ws (scheduler_at ws).active

-- The state of a new scheduler: nothing remembered, no time, no row.
abbrev pub at_rest : SchedulerState
at_rest = record { current = None; system_virtual_time = 0; active = 0 }

-- ------------------------------------------------------------------ what a function must show

-- Done, good, and the model's step.
pub record Steps (ws : List ℕ) (r : Outcome) (sc : Scheduler) : Type 0 where
  pub step_done : r.done ≡ true
  pub step_good : GoodScheduler r.next
  pub step_model : model_scheduler r.next ≡ sc
  pub step_count : (scheduler_at r.next).active ≤ suc (scheduler_at ws).active

-- Scheduling parameters whose weight is a 16-bit number.
abbrev pub FitsParameters : SchedulingParameters → Type 0
FitsParameters RoundRobin = Unit {0}
FitsParameters (WeightedFairQueuing w) = w < 65536

-- Whether a stream can be let wait: it has a row, or there is room for one.
pub data Room (ws : List ℕ) (id : ℕ) : Type 0 where
  listed : (i : ℕ) → i < (scheduler_at ws).active → (entry_at ws i).stream_id ≡ id → Room ws id
  free : (scheduler_at ws).active < 256 → Room ws id

-- What a choice on the words says of the model's.
pub data Chooses (ws : List ℕ) (x : Option Active) : Peeked → Type 0 where
  row_chosen : (i : ℕ) → i < (scheduler_at ws).active → x ≡ some (entry_at ws i) → Chooses ws x (At i)
  none_chosen : x ≡ none → Chooses ws x Nothing

-- No part of the queue but the scheduler's has changed.
pub record Untouched (ws us : List ℕ) : Type 0 where
  pub same_options : options_at us ≡ options_at ws
  pub same_totals : totals_at us ≡ totals_at ws
  pub same_known : (i : ℕ) → i < 256 → known_at us i ≡ known_at ws i
  pub same_streams : (i : ℕ) → i < 256 → stream_at_words us i ≡ stream_at_words ws i
  pub same_items : (i : ℕ) → i < 1024 → item_at us i ≡ item_at ws i
