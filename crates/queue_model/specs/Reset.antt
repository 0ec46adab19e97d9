-- Restarting streams: ready ids, commit, rollback and the whole-queue reset. Document 01, "Closing and restarting streams". Assumes nothing.
use Rattle.std.specs.Prelude.{ℕ, ◌+◌, ◌-◌, Bool, true, false, ◌&&◌, ◌||◌, List, [], ◌∷◌, map, ltb, length}
use Rattle.std.proofs.Math.Option.{none}
use Rattle.std.specs.Prelude.{if◌then◌else◌}
use Rattle.queue_model.specs.Logic.{any}
use Rattle.queue_model.specs.Table.{sum_by}
use Rattle.queue_model.specs.Types.{Item, not_paused, pending, paused, resetting, Stream, Queue, done, ids, Step, reply, remaining, with_items, model_with_pause, with_counters, with_numbers, with_state}
use Rattle.queue_model.specs.Streams.{zero_counters, has_items, reschedule_each}
use Rattle.queue_model.specs.Refusals.{Check, ◌when◌, checked, max_word}

unfoldable pub is_paused : Stream → Bool
is_paused s = elim s.pause_state [ not_paused ↦ false | pending ↦ false | paused ↦ true | resetting ↦ false ]

unfoldable pub is_resetting : Stream → Bool
is_resetting s = elim s.pause_state [ not_paused ↦ false | pending ↦ false | paused ↦ false | resetting ↦ true ]

-- ------------------------------------------------------------------ ready ids

-- "Ready ids ... in ascending order": those of the paused streams.
unfoldable pub paused_ids : List Stream → List ℕ
unfolding is_paused
paused_ids [] = []
paused_ids (s ∷ ss) = let rest = paused_ids ss in if is_paused s then s.id ∷ rest else rest

-- "and become resetting".
unfoldable pub paused_to_resetting : Stream → Stream
unfolding is_paused
paused_to_resetting s = if is_paused s then model_with_pause resetting s else s

-- The ids that are ready to be reset (Rust: get_streams_ready_to_reset).
unfoldable pub ready_ids : Queue → Step
unfolding paused_ids paused_to_resetting
ready_ids q = reply (ids (paused_ids q.streams)) [] (with_state q q.total (map paused_to_resetting q.streams) q.scheduler)

-- ------------------------------------------------------------------ commit and rollback

-- "For every resetting stream, commit sets the three counters to 0 and opens, and rollback opens".
unfoldable pub opened : Bool → Stream → Stream
opened true s = model_with_pause not_paused (with_counters zero_counters s)
opened false s = model_with_pause not_paused s

unfoldable pub reopened : Bool → Stream → Stream
unfolding is_resetting opened
reopened zeroed s = if is_resetting s then opened zeroed s else s

-- "both let a stream with messages wait" (Rust: commit_reset_streams, rollback_reset_streams).
unfoldable pub reopen : Bool → Queue → Step
unfolding reopened reschedule_each is_resetting has_items
reopen zeroed q =
    reply done [] (with_state q q.total (map (reopened zeroed) q.streams)
    (reschedule_each q.interleaving (λ s. is_resetting s && has_items s) q.streams q.scheduler))

unfoldable pub commit : Queue → Step
unfolding reopen
commit q = reopen true q

unfoldable pub rollback : Queue → Step
unfolding reopen
rollback q = reopen false q

-- ------------------------------------------------------------------ the whole-queue reset

-- The sent bytes of the head message, which come back.
unfoldable pub model_put_back : List Item → ℕ
model_put_back [] = 0
model_put_back (i ∷ is) = length i.payload - remaining i

-- A message put back whole by a rule, the Rust's or the strict one: "keeping its MID, SSN and FSN"; document 02, 6/13: "Strict reset removes the head
-- message's MID and SSN and sets its
-- FSN to 0."
abbrev pub model_whole_item : Bool → Item → Item
model_whole_item strict i = with_numbers i (if strict then none else i.mid) (if strict then 0 else i.ssn) (if strict then 0 else i.fsn) 0

-- "puts each head message back whole".
unfoldable pub whole_head : Bool → List Item → List Item
whole_head strict [] = []
whole_head strict (i ∷ is) = model_whole_item strict i ∷ is

-- "Whole-queue reset opens all streams, zeroes their counters and puts each head message back whole".
unfoldable pub reset_stream : Bool → Stream → Stream
unfolding model_put_back whole_head
reset_stream strict s = model_with_pause not_paused (with_counters zero_counters (with_items s (s.amount + model_put_back s.items) (whole_head strict s.items)))

abbrev pub all_put_back : List Stream → ℕ
all_put_back ss = sum_by (λ (s : Stream). model_put_back s.items) ss

-- 16: whether a stream's amount would pass 2^64 - 1.
unfoldable pub put_back_overflows : Stream → Bool
unfolding model_put_back
put_back_overflows s = ltb max_word (s.amount + model_put_back s.items)

abbrev pub reset_checks : Queue → List Check
reset_checks q = (16 when ltb max_word (q.total + all_put_back q.streams) || any put_back_overflows q.streams) ∷ []

-- "every stream with messages then waits" (Rust: reset).
unfoldable pub reset : Queue → Step
unfolding checked any model_put_back put_back_overflows reset_stream reschedule_each has_items
reset q =
    let ss = map (reset_stream q.options.strict_restart) q.streams in
    let s = reply done [] (with_state q (q.total + all_put_back q.streams) ss (reschedule_each q.interleaving has_items ss q.scheduler)) in
    checked (reset_checks q) q s
