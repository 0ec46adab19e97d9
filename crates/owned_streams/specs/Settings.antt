-- "If an answer is an enum, a definition states this paper's number and values for each case of the enum." Of the owned settings, as the checked call
-- says it; 16 is none of them. Assumes nothing.
use Rattle.std.specs.Prelude.{ℕ, Result, Ok, Err}
use Rattle.queue_streams.specs.Call.{Call}
use Rattle.queue_streams.specs.Call.{Accepted, Refused}
use Rattle.owned_streams.specs.declared.refusals.StreamsFull as full
use Rattle.owned_streams.specs.declared.refusals.ThresholdRefusal.{ThresholdRefusal}
use Rattle.owned_streams.specs.declared.refusals.ThresholdRefusal.TheVariants.{EventListShort, StreamsFull}

abbrev pub priority_set_as : Result (Unit {0}) full.StreamsFull → Call
priority_set_as (Ok u) = Accepted 0
priority_set_as (Err f) = Refused 6

abbrev pub threshold_number : ThresholdRefusal → ℕ
threshold_number EventListShort = 3
threshold_number StreamsFull = 6

abbrev pub threshold_set_as : Result ℕ ThresholdRefusal → Call
threshold_set_as (Ok k) = Accepted k
threshold_set_as (Err t) = Refused (threshold_number t)
