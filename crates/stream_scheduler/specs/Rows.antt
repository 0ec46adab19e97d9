-- Times, and a row of the active table from a start on. Assumes nothing.
use Rattle.std.specs.Prelude.{ℕ, ◌+◌, min}
use Rattle.queue_model.specs.Types.{Weight, round_robin, weighted}
use Rattle.queue_model.specs.Scheduler.{cost, saturating}
use Rattle.queue_words.specs.Active.{parameters_of}
use Rattle.queue_words.specs.declared.active.ActiveStreamInfo.{ActiveStreamInfo}
use Rattle.queue_words.specs.declared.active.SchedulingParameters.{SchedulingParameters}
use Rattle.queue_words.specs.declared.active.SchedulingParameters.TheVariants.{RoundRobin, WeightedFairQueuing}

-- The model's weight of scheduling parameters, and of their word in a row.
abbrev pub weight_of_words : SchedulingParameters → Weight
weight_of_words RoundRobin = round_robin
weight_of_words (WeightedFairQueuing w) = weighted w

abbrev pub weight_at : ℕ → Weight
weight_at w = weight_of_words (parameters_of w)

-- The time reached by handing out `bytes` from `start` on.
unfoldable pub advanced : ℕ → ℕ → ℕ → ℕ
advanced w start bytes = saturating (start + cost (weight_at w) bytes)

-- A stream's row from a start on.
abbrev pub scheduled_row : ℕ → ℕ → ℕ → ℕ → ℕ → ActiveStreamInfo
scheduled_row limit id w start bytes = record {
  stream_id = record { 0 = id };
  parameters = w;
  virtual_start_time = start;
  virtual_finish_time = advanced w start (min bytes limit);
  bytes_remaining = bytes;
}
