-- The stream scheduler (Rust: tx/stream_scheduler.rs). Document 01, "The next fragment", from "Choice:" on. Assumes nothing.
use Rattle.std.specs.Prelude.{ℕ, zero, suc, ◌+◌, ◌-◌, ◌*◌, ◌/◌, min, max, Bool, ◌&&◌, ◌||◌, List, [], ◌∷◌, eqb, ltb, leb}
use Rattle.std.proofs.Math.Option.{Option, none, some}
use Rattle.std.specs.Prelude.{if◌then◌else◌}
use Rattle.queue_model.specs.Table.{find, put, without}
use Rattle.queue_model.specs.Types.{Weight, round_robin, weighted, Active, Scheduler}

-- ------------------------------------------------------------------ cost and times

-- "Sums stop at 2^64 - 1."
abbrev pub saturating : ℕ → ℕ
saturating n = min n 18446744073709551615

-- "Cost without interleaving is 1; with it, bytes × 1,000,000 / weight rounded down, weight 0 counting as 1."
unfoldable pub cost : Weight → ℕ → ℕ
cost round_robin bytes = 1
cost (weighted w) bytes = saturating (bytes * 1000000) / max w 1

-- Where handing out bytes leads an entry (Rust: calculate_vt).
unfoldable pub moved : Active → ℕ → ℕ
unfolding cost
moved a bytes = saturating (a.start + cost a.weight bytes)

-- A stream's entry from a start on: "finish = start + cost of min(remaining, payload limit)" (Rust: schedule_next_chunk).
unfoldable pub scheduled : ℕ → ℕ → Weight → ℕ → ℕ → Active
unfolding cost
scheduled limit s w start bytes = record { stream_id = s; weight = w; start = start; finish = saturating (start + cost w (min bytes limit)); bytes_remaining = bytes }

-- ------------------------------------------------------------------ the table of entries

-- The entries are a table by stream id: the entry of a stream, if the scheduler lists it; the entries with one set; and without a stream's.
abbrev pub active_key : Active → ℕ
active_key a = a.stream_id

abbrev pub find_active : ℕ → List Active → Option Active
find_active s as' = find active_key s as'

abbrev pub put_active : Active → List Active → List Active
put_active a as' = put active_key a as'

abbrev pub without_active : ℕ → List Active → List Active
without_active s as' = without active_key s as'

-- The scheduler of a new queue.
unfoldable pub new_scheduler : ℕ → Scheduler
new_scheduler limit = record { payload_limit = limit; current = none; system_time = 0; active = [] }

-- ------------------------------------------------------------------ waiting

-- "Without interleaving a stream is remembered ... until a last fragment or until it stops waiting": the remembered stream, unless it is this one.
unfoldable pub forget : ℕ → Option ℕ → Option ℕ
forget s none = none
forget s (some c) = if eqb c s then none else some c

-- "The system time is 0 when no stream waits."
unfoldable pub rest_time : ℕ → List Active → ℕ
rest_time t [] = 0
rest_time t (a ∷ as') = t

-- End a stream's waiting (Rust: remove_stream).
unfoldable pub remove_stream : ℕ → Scheduler → Scheduler
unfolding without forget rest_time
remove_stream s sc =
    let as' = without_active s sc.active in
    record { payload_limit = sc.payload_limit; current = forget s sc.current; system_time = rest_time sc.system_time as'; active = as' }

-- "A stream that begins waiting starts at the system time"; one that waits keeps its start.
unfoldable pub start_of : ℕ → Option Active → ℕ
start_of t none = t
start_of t (some a) = a.start

-- Let a stream wait with so many bytes and this weight; with 0 bytes its waiting ends (Rust: set_bytes_remaining).
unfoldable pub set_bytes_remaining : ℕ → ℕ → Weight → Scheduler → Scheduler
unfolding remove_stream find put scheduled start_of
set_bytes_remaining s zero w sc = remove_stream s sc
set_bytes_remaining s (suc n) w sc =
    record {
      payload_limit = sc.payload_limit;
      current = sc.current;
      system_time = sc.system_time;
      active = put_active (scheduled sc.payload_limit s w (start_of sc.system_time (find_active s sc.active)) (suc n)) sc.active;
    }

-- ------------------------------------------------------------------ the choice

-- "the smallest finish time, then the smallest id" (Rust: Ord of ActiveStreamInfo).
unfoldable pub comes_before : Active → Active → Bool
comes_before a b = ltb a.finish b.finish || (eqb a.finish b.finish && ltb a.stream_id b.stream_id)

unfoldable pub earlier : Active → Active → Active
unfolding comes_before
earlier a b = if comes_before a b then a else b

-- The least entry of a list that begins with one, and of any list.
unfoldable pub least : Active → List Active → Active
unfolding earlier
least a [] = a
least a (b ∷ bs) = least (earlier a b) bs

unfoldable pub least_of : List Active → Option Active
unfolding least
least_of [] = none
least_of (a ∷ as') = some (least a as')

-- The entry of the remembered stream, if one is remembered and waits.
unfoldable pub remembered : Option ℕ → List Active → Option Active
unfolding find
remembered none as' = none
remembered (some s) as' = find_active s as'

-- The first of two that is there.
unfoldable pub or_else : Option Active → Option Active → Option Active
or_else (some a) o = some a
or_else none o = o

-- "Choice: the stream in mid-message if one is remembered, else the smallest finish time, then the smallest id." (Rust: peek)
unfoldable pub peek : Scheduler → Option Active
unfolding remembered least_of or_else
peek sc = or_else (remembered sc.current sc.active) (least_of sc.active)

-- ------------------------------------------------------------------ handing out

-- "Without interleaving a stream is remembered from any fragment but a last one" (and by restoring, document 02, 10/13: `remember_half_sent`); with it
-- none is ("switching interleaving on keeps it so until its next fragment").
unfoldable pub remember : ℕ → Weight → Option ℕ
remember s round_robin = some s
remember s (weighted w) = none

-- "A last fragment ends its stream's waiting, which makes the system time 0 if no other stream waits".
unfoldable pub accept_last : Active → ℕ → Scheduler → Scheduler
unfolding moved remove_stream
accept_last a bytes sc = remove_stream a.stream_id (record { payload_limit = sc.payload_limit; current = some a.stream_id; system_time = moved a bytes; active = sc.active })

-- After any other fragment the stream's start has moved, and it waits with what is left.
unfoldable pub accept_part : Active → ℕ → Scheduler → Scheduler
unfolding moved scheduled put remember
accept_part a bytes sc =
    record {
      payload_limit = sc.payload_limit;
      current = remember a.stream_id a.weight;
      system_time = moved a bytes;
      active = put_active (scheduled sc.payload_limit a.stream_id a.weight (moved a bytes) (a.bytes_remaining - bytes)) sc.active;
    }

-- "Handing out moves its start, and the system time, by the cost of the bytes handed out." As in the Rust (accept), the system time becomes that
-- stream's new start,
-- whatever it was before.
unfoldable pub accept : Active → ℕ → Scheduler → Scheduler
unfolding accept_last accept_part
accept a bytes sc = if leb a.bytes_remaining bytes then accept_last a bytes sc else accept_part a bytes sc
