-- The streams that the scheduler lists: 256 rows of 5 words from word 19488 on. Assumes nothing.
use Rattle.std.specs.Prelude.{ℕ, ◌+◌, ◌*◌, ◌%◌, ◌<◌, List, [], ◌∷◌, ltb, get_or}
use Rattle.queue_words.specs.Rows.{row, put_row}
use Rattle.queue_words.specs.Flags.{pick}
use Rattle.queue_words.specs.Leasts.{group_of, stale, put_least}
use Rattle.queue_words.specs.declared.active.ActiveStreamInfo.{ActiveStreamInfo}
use Rattle.queue_words.specs.declared.active.SchedulingParameters.{SchedulingParameters}
use Rattle.queue_words.specs.declared.active.SchedulingParameters.TheVariants.{RoundRobin, WeightedFairQueuing}

-- an active stream in five words
abbrev pub active_of : List ℕ → ActiveStreamInfo
active_of vs = record {
  stream_id = record { 0 = get_or vs 0 0 % 65536 };
  parameters = get_or vs 1 0 % 4294967296;
  virtual_start_time = get_or vs 2 0;
  virtual_finish_time = get_or vs 3 0;
  bytes_remaining = get_or vs 4 0;
}

-- its words
abbrev pub active_words : ActiveStreamInfo → List ℕ
active_words a = a.stream_id.0 ∷ a.parameters ∷ a.virtual_start_time ∷ a.virtual_finish_time ∷ a.bytes_remaining ∷ []

-- what load and store do, word by word
abbrev pub active_out : List ℕ → ℕ → ActiveStreamInfo
active_out ws i = active_of (row ws (19488 + i * 5) 5)

abbrev pub active_in : List ℕ → ℕ → ActiveStreamInfo → List ℕ
active_in ws i a = put_row ws (19488 + i * 5) (active_words a)

-- the active stream in row i
unfoldable pub active_at : List ℕ → ℕ → ActiveStreamInfo
active_at ws i = active_out ws i

-- the words with a in row i; which row of its group is the least is not known then
unfoldable pub put_active_words : List ℕ → ℕ → ActiveStreamInfo → List ℕ
put_active_words ws i a = put_least (active_in ws i a) (group_of i) stale

-- every narrow field is a value of its type
pub record FitsActive (a : ActiveStreamInfo) : Type 0 where
  pub stream_id_fits : a.stream_id.0 < 65536
  pub parameters_fits : a.parameters < 4294967296

-- the parameters of a word: a weight below 65,536, else round robin
abbrev pub parameters_of : ℕ → SchedulingParameters
parameters_of w = pick (ltb w 65536) (WeightedFairQueuing w) RoundRobin

-- the word of parameters
abbrev pub parameters_word : SchedulingParameters → ℕ
parameters_word RoundRobin = 65536
parameters_word (WeightedFairQueuing w) = w
