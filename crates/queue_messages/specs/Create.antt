-- Creating a queue in lent words. Assumes nothing.
use Rattle.std.specs.Prelude.{None}
use Rattle.std.specs.Prelude.{ℕ, zero, suc, ◌+◌, ◌%◌, Bool, false, List, ltb, eqb}
use Rattle.queue_words.specs.Flags.{pick}
use Rattle.queue_words.specs.Header.{is_strict, put_options, put_totals, put_scheduler}
use Rattle.queue_words.specs.Items.{put_next, put_place, put_length}
use Rattle.queue_words.specs.declared.header.Options.{Options}
use Rattle.queue_words.specs.declared.header.RestartRule.{RestartRule}
use Rattle.queue_words.specs.declared.header.SchedulerState.{SchedulerState}
use Rattle.queue_words.specs.declared.header.Totals.{Totals}
use Rattle.queue_streams.specs.Settings.{Called, called}
use Rattle.queue_streams.specs.Call.{Accepted, Refused}

-- 1: "At creation, the payload limit is outside 1 to 65,535." 2: "The store is outside 1 to 2,000,000 bytes at creation".
unfoldable pub create_code : ℕ → ℕ → ℕ
create_code limit len =
    pick (eqb limit 0) 1 (pick (ltb 65535 limit) 1 (pick (eqb len 0) 2 (pick (ltb 2000000 len) 2 0)))

-- nothing known, nothing waits, the first place is free; "interleaving starts off"
abbrev pub new_totals : Totals
new_totals = record {
  interleaving = false;
  next_message_id = record { 0 = 0 };
  total = 0;
  known = 0;
  waiting = 0;
  free = 0;
  used = 0;
  gaps = record { end = 0; limit = 0; from = 0; upto = 0 };
}

-- no stream waits, none is remembered
abbrev pub new_scheduler_words : SchedulerState
new_scheduler_words = record { current = None; system_virtual_time = 0; active = 0 }

-- the first n places are free, chained in their order; none has a payload, and none points past the store
unfoldable pub freed : List ℕ → ℕ → List ℕ
freed ws zero = ws
freed ws (suc i) = put_next (put_place (put_length (freed ws i) i 0) i 0) i (i + 1)

-- a new queue in the words
unfoldable pub new_words : List ℕ → Options → List ℕ
new_words ws o = freed (put_scheduler (put_totals (put_options ws o) new_totals) new_scheduler_words) 1024

-- "Creation takes the payload limit, the store, the default priority, the default and total thresholds and the choice of handover with waiting data".
-- Document 02, 6/13: "Creation chooses
-- the rule, as in the Rust or strict."
abbrev pub new_options : ℕ → ℕ → ℕ → ℕ → ℕ → Bool → RestartRule → Options
new_options len limit priority threshold total handover rule = record {
  payload_limit = limit % 65536;
  default_priority = priority;
  handover_with_data = handover;
  store_length = len;
  default_threshold = threshold;
  total_threshold = total;
  strict_restart = is_strict rule;
}

-- The whole call, for a store of len bytes.
unfoldable pub create : List ℕ → ℕ → ℕ → ℕ → ℕ → ℕ → Bool → RestartRule → Called
create ws len limit priority threshold total handover rule =
    pick (ltb 0 (create_code limit len)) (called (Refused (create_code limit len)) ws)
    (called (Accepted 0) (new_words ws (new_options len limit priority threshold total handover rule)))
