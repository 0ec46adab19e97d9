-- The header: the options from word 0, the totals from word 7, the scheduler's state from word 18. Assumes nothing.
use Rattle.std.specs.Prelude.{ℕ, ◌%◌, ◌<◌, Bool, true, false, List, [], ◌∷◌, Option, Some, None, ltb, get_or}
use Rattle.types.specs.declared.StreamId.{StreamId}
use Rattle.queue_words.specs.Rows.{row, put_row}
use Rattle.queue_words.specs.Flags.{bit, flag, pick}
use Rattle.queue_words.specs.declared.header.RestartRule.{RestartRule}
use Rattle.queue_words.specs.declared.header.RestartRule.TheVariants.{Dcsctp, Strict}
use Rattle.queue_words.specs.declared.header.Options.{Options}
use Rattle.queue_words.specs.declared.header.Totals.{Totals}
use Rattle.queue_words.specs.declared.header.SchedulerState.{SchedulerState}

-- whether a rule is the strict one
abbrev pub is_strict : RestartRule → Bool
is_strict Dcsctp = false
is_strict Strict = true

-- the options in seven words
abbrev pub options_of : List ℕ → Options
options_of vs = record {
  payload_limit = get_or vs 0 0 % 65536;
  default_priority = get_or vs 1 0 % 65536;
  handover_with_data = flag (get_or vs 2 0);
  store_length = get_or vs 3 0;
  default_threshold = get_or vs 4 0;
  total_threshold = get_or vs 5 0;
  strict_restart = flag (get_or vs 6 0);
}

-- the words of the options
abbrev pub options_words : Options → List ℕ
options_words o = o.payload_limit ∷ o.default_priority ∷ bit o.handover_with_data
    ∷ o.store_length ∷ o.default_threshold ∷ o.total_threshold ∷ bit o.strict_restart ∷ []

-- the totals in eleven words
abbrev pub totals_of : List ℕ → Totals
totals_of vs = record {
  interleaving = flag (get_or vs 0 0);
  next_message_id = record { 0 = get_or vs 1 0 % 4294967296 };
  total = get_or vs 2 0;
  known = get_or vs 3 0;
  waiting = get_or vs 4 0;
  free = get_or vs 5 0;
  used = get_or vs 6 0;
  gaps = record { end = get_or vs 7 0; limit = get_or vs 8 0; from = get_or vs 9 0; upto = get_or vs 10 0 };
}

-- the words of the totals
abbrev pub totals_words : Totals → List ℕ
totals_words t = bit t.interleaving ∷ t.next_message_id.0 ∷ t.total ∷ t.known ∷ t.waiting ∷ t.free ∷ t.used
    ∷ t.gaps.end ∷ t.gaps.limit ∷ t.gaps.from ∷ t.gaps.upto ∷ []

-- "the stream in mid-message if one is remembered"
abbrev pub Remembered : Type 0
Remembered = Option StreamId

-- the remembered stream of a word: an id below 65,536, else none
abbrev pub remembered_of : ℕ → Remembered
remembered_of w = pick (ltb w 65536) (Some (record { 0 = w })) None

-- the word of it
abbrev pub remembered_word : Remembered → ℕ
remembered_word None = 65536
remembered_word (Some id) = id.0

-- the scheduler's state in three words
abbrev pub scheduler_of : List ℕ → SchedulerState
scheduler_of vs = record { current = remembered_of (get_or vs 0 0); system_virtual_time = get_or vs 1 0; active = get_or vs 2 0 }

-- the words of the scheduler's state
abbrev pub scheduler_words : SchedulerState → List ℕ
scheduler_words s = remembered_word s.current ∷ s.system_virtual_time ∷ s.active ∷ []

-- what loads and stores do, word by word: seen through by the functions .._out and .._in alone
abbrev pub options_out : List ℕ → Options
options_out ws = options_of (row ws 0 7)

abbrev pub options_in : List ℕ → Options → List ℕ
options_in ws o = put_row ws 0 (options_words o)

abbrev pub totals_out : List ℕ → Totals
totals_out ws = totals_of (row ws 7 11)

abbrev pub totals_in : List ℕ → Totals → List ℕ
totals_in ws t = put_row ws 7 (totals_words t)

abbrev pub scheduler_out : List ℕ → SchedulerState
scheduler_out ws = scheduler_of (row ws 18 3)

abbrev pub scheduler_in : List ℕ → SchedulerState → List ℕ
scheduler_in ws s = put_row ws 18 (scheduler_words s)

-- the options, the totals and the scheduler's state of the words
unfoldable pub options_at : List ℕ → Options
options_at ws = options_out ws

unfoldable pub totals_at : List ℕ → Totals
totals_at ws = totals_out ws

unfoldable pub scheduler_at : List ℕ → SchedulerState
scheduler_at ws = scheduler_out ws

-- the words with other ones
unfoldable pub put_options : List ℕ → Options → List ℕ
put_options ws o = options_in ws o

unfoldable pub put_totals : List ℕ → Totals → List ℕ
put_totals ws t = totals_in ws t

unfoldable pub put_scheduler : List ℕ → SchedulerState → List ℕ
put_scheduler ws s = scheduler_in ws s

-- every narrow field is a value of its type
pub record FitsOptions (o : Options) : Type 0 where
  pub limit_fits : o.payload_limit < 65536
  pub priority_fits : o.default_priority < 65536

pub record FitsTotals (t : Totals) : Type 0 where
  pub message_id_fits : t.next_message_id.0 < 4294967296

abbrev pub FitsRemembered : Remembered → Type 0
FitsRemembered None = Unit {0}
FitsRemembered (Some id) = id.0 < 65536
