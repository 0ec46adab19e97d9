-- The invariant of every queue that creation and calls lead to (theorem `reachable_well`): numbers have their widths, amounts and counts are sums,
-- limits hold, and the scheduler lists streams that wait with their first message. Assumes nothing.
use Rattle.std.specs.Prelude.{◌≡◌, Bool, true, false, List, [], ◌∷◌, ℕ, ◌^◌, ◌≤◌, ◌<◌, T, length}
use Rattle.std.proofs.Math.Option.{Option, none, some, get_or}
use Rattle.std.proofs.Math.Pow.{are_bytes}
use Rattle.queue_model.specs.Table.{Every, Rising}
use Rattle.queue_model.specs.Types.{Item, Counters, Stream, Weight, round_robin, weighted, Active, Scheduler, Queue}
use Rattle.queue_model.specs.Scheduler.{find_active, active_key}
use Rattle.queue_model.specs.Streams.{max_streams, max_messages, waiting, occupied, unsent_bytes, amounts, size_at, stream_key}
use Rattle.queue_model.specs.Refusals.{max_payload, max_word}
use Rattle.queue_model.specs.Demands.{Created}

-- ------------------------------------------------------------------ messages

-- A waiting message as the calls leave it.
pub record WellItem (i : Item) : Type 0 where
  pub unsent : i.offset < length i.payload
  pub small : length i.payload ≤ max_payload
  pub id_fits : i.message_id < 2 ^ 32
  pub ppid_fits : i.ppid < 2 ^ 32
  pub retransmissions_fit : i.max_retransmissions < 2 ^ 16
  pub lifecycle_fits : i.lifecycle_id < 2 ^ 64
  pub mid_fits : get_or i.mid 0 < 2 ^ 32
  pub ssn_fits : i.ssn < 2 ^ 16
  pub fsn_fits : i.fsn < 2 ^ 32
  pub no_ssn : i.mid ≡ none → i.ssn ≡ 0
  pub no_offset : i.mid ≡ none → i.offset ≡ 0
  pub no_fsn : i.mid ≡ none → i.fsn ≡ 0
  pub unordered_ssn : i.unordered ≡ true → i.ssn ≡ 0
  pub expiry_fits : get_or i.expires_at 0 < 2 ^ 64
  pub bytes : T (are_bytes i.payload)

-- Messages behind the first have no MID.
abbrev pub WellRest : List Item → Type 0
WellRest [] = Unit {0}
WellRest (i ∷ is) = WellItem i × ((i.mid ≡ none) × WellRest is)

abbrev pub WellItems : List Item → Type 0
WellItems [] = Unit {0}
WellItems (i ∷ is) = WellItem i × WellRest is

-- ------------------------------------------------------------------ streams

-- The counters have their widths.
pub record CountersFit (c : Counters) : Type 0 where
  pub ssn_fits : c.next_ssn < 2 ^ 16
  pub unordered_fits : c.next_unordered_mid < 2 ^ 32
  pub ordered_fits : c.next_ordered_mid < 2 ^ 32

-- A known stream: widths, well-formed messages, and an amount that is their unsent bytes.
pub record Kept (s : Stream) : Type 0 where
  pub id_fits : s.id < 2 ^ 16
  pub priority_fits : s.priority < 2 ^ 16
  pub threshold_fits : s.threshold < 2 ^ 64
  pub counters_fit : CountersFit s.counters
  pub well_items : WellItems s.items
  pub counted : s.amount ≡ unsent_bytes s.items

-- ------------------------------------------------------------------ the scheduler

-- A weight of the interleaving choice: none without it, a 16-bit number with it.
abbrev pub WeightFits : Bool → Weight → Type 0
WeightFits il round_robin = il ≡ false
WeightFits il (weighted w) = (il ≡ true) × (w < 2 ^ 16)

-- Times stop at 2^64 - 1.
pub record Numbers (a : Active) : Type 0 where
  pub start_fits : a.start ≤ max_word
  pub finish_fits : a.finish ≤ max_word

-- The entry's stream is known and has messages, the first of this size; its weight is of the choice.
pub record Listed (il : Bool) (ss : List Stream) (a : Active) : Type 0 where
  pub weighs : WeightFits il a.weight
  pub sized : a.bytes_remaining ≡ size_at a.stream_id ss
  pub positive : 0 < a.bytes_remaining

-- A stream's entry stands in the list.
abbrev pub Holds : ℕ → List Active → Type 0
Holds k as' = (a : Active) × (find_active k as' ≡ some a)

-- The remembered stream, if there is one, stands in the list.
abbrev pub Remembers : Option ℕ → List Active → Type 0
Remembers none as' = Unit {0}
Remembers (some k) as' = Holds k as'

-- A scheduler, over what is said of every entry.
pub record Sched (limit : ℕ) (P : Active → Type 0) (sc : Scheduler) : Type 0 where
  pub limit_same : sc.payload_limit ≡ limit
  pub rises : Rising active_key sc.active
  pub every : Every P sc.active
  pub numbers : Every Numbers sc.active
  pub time_fits : sc.system_time ≤ max_word
  pub current_fits : get_or sc.current 0 < 2 ^ 16
  pub remembers : Remembers sc.current sc.active

-- With no entry the time is 0.
abbrev pub Idle : Scheduler → Type 0
Idle sc = sc.active ≡ [] → sc.system_time ≡ 0

pub record Waits (limit : ℕ) (P : Active → Type 0) (sc : Scheduler) : Type 0 where
  pub sched : Sched limit P sc
  pub idle : Idle sc

-- ------------------------------------------------------------------ the queue

-- Created so; the known streams by rising id, each well-formed; the total is the sum of the amounts; at most 256 streams, 1,024 messages, as many bytes
-- as the store has; the scheduler is that of these streams.
pub record Well (q : Queue) : Type 0 where
  pub creation : Created q.options
  pub rising : Rising stream_key q.streams
  pub kept : Every Kept q.streams
  pub total_counted : q.total ≡ amounts q.streams
  pub next_fits : q.next_message_id < 2 ^ 32
  pub streams_few : length q.streams ≤ max_streams
  pub messages_few : waiting q.streams ≤ max_messages
  pub store_fits : occupied q.streams ≤ q.options.store_length
  pub waits : Waits q.options.payload_limit (Listed q.interleaving q.streams) q.scheduler
