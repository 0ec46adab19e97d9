-- Request 13/13 on runs of the model: working priorities, and no others, put the first fragments in the list's order. Assumes nothing.
use Rattle.std.specs.Prelude.{◌≡◌, true, false, List, [], ◌∷◌, map, ℕ, ◌≤◌, ◌<◌, ◌^◌, length}
use Rattle.std.proofs.Math.Option.{none, some}
use Rattle.queue_model.specs.Types.{Options, Queue}
use Rattle.queue_model.specs.Scheduler.{find_active}
use Rattle.queue_model.specs.Table.{find}
use Rattle.queue_model.specs.Streams.{new_queue}
use Rattle.queue_model.specs.Refusals.{max_time, max_payload, event_places}
use Rattle.queue_model.specs.Add.{expiry}
use Rattle.queue_model.specs.Run.{run, after}
use Rattle.queue_model.specs.FairTurns.{none_expired}
use Rattle.queue_model.specs.Demands.{AllTyped, Created}
use Rattle.priority_plan.specs.Works.{PlannedStream, planned_streams, first_entry, All, IsPriority, Works}
use Rattle.priority_plan.specs.Lists.{named_twice}
use Rattle.priority_plan.specs.Plan.{made_plan, planned}
use Rattle.priority_plan.specs.Jobs.{Setting, priority, interleaving, setting_call, Adding, adding_call, Asking, Later, ask, later_call, times, added_later, first_size, Accepted, AllPairs, set_up, loaded, Job}
use Rattle.priority_plan.specs.Turns.{streams_shown, firsts, still_without, ends, InTurn, stream_ids, Lasting}

-- ------------------------------------------------------------------ the entries

-- The scheduler lists each stream with the entry by which `Works` judges, remembers no stream, and stands at system time 0.
pub record Listed (limit : ℕ) (hs : List PlannedStream) (ps : List ℕ) (q : Queue) : Type 0 where
  pub all_listed : AllPairs (λ (h : PlannedStream) (p : ℕ). find_active h.stream_id q.scheduler.active ≡ some (first_entry limit h p)) hs ps
  pub none_remembered : q.scheduler.current ≡ none
  pub time_zero : q.scheduler.system_time ≡ 0

unfoldable pub Request13Entries : Type 0
unfolding after new_queue run find
Request13Entries = (o : Options) (hs : List PlannedStream) (ps : List ℕ) (ss : List Setting) (as' : List Adding) → Job o hs ps ss as' → Listed o.payload_limit hs ps (loaded o ss as')

-- ------------------------------------------------------------------ the order

-- "make the scheduler's finish times and ids put those first fragments in that order": in any run of next fragments, of whatever sizes, and of more
-- messages, refused calls
-- included, in which no message has expired when a fragment is asked for.
unfoldable pub Request13Order : Type 0
unfolding after new_queue run streams_shown firsts still_without ends expiry none_expired
Request13Order =
    (o : Options) (hs : List PlannedStream) (ps : List ℕ) (ss : List Setting) (as' : List Adding) (xs : List Later)
    → Job o hs ps ss as' → Works o.payload_limit hs ps → AllTyped (map adding_call (added_later xs))
    → All (λ (t : ℕ). none_expired t (loaded o ss as') ≡ true) (times xs)
    → All (λ (t : ℕ). Lasting t (added_later xs)) (times xs)
    → InTurn (stream_ids hs) (run (map later_call xs) (loaded o ss as'))

-- An asking that is not refused (document 01's 2, 3, 4, 9 and 10).
pub record Accepts (o : Options) (x : Asking) : Type 0 where
  pub store_same : x.store ≡ o.store_length
  pub places_enough : event_places ≤ x.places
  pub time_fits : x.now ≤ max_time
  pub size_low : 1 ≤ x.size
  pub size_high : x.size ≤ max_payload
  pub buffer_fits : x.size ≤ x.buffer

-- More such calls than bytes wait serve every listed stream.
unfoldable pub Request13Served : Type 0
unfolding after new_queue run streams_shown firsts none_expired
Request13Served =
    (o : Options) (hs : List PlannedStream) (ps : List ℕ) (ss : List Setting) (as' : List Adding) (xs : List Asking)
    → Job o hs ps ss as' → Works o.payload_limit hs ps
    → All (Accepts o) xs → All (λ (x : Asking). none_expired x.now (loaded o ss as') ≡ true) xs
    → (loaded o ss as').total < length xs
    → firsts (stream_ids hs) (streams_shown (run (map later_call (map ask xs)) (loaded o ss as'))) ≡ stream_ids hs

-- The converse: allowed priorities of different streams that put the first fragments in the list's order in every such run have finish times and ids in
-- that order. So
-- "any working set" means the same by finish times and by runs.
unfoldable pub Request13Only : Type 0
unfolding after new_queue run streams_shown firsts still_without ends named_twice expiry
Request13Only =
    (o : Options) (hs : List PlannedStream) (ps : List ℕ) (ss : List Setting) (as' : List Adding)
    → Job o hs ps ss as' → All IsPriority ps → named_twice (stream_ids hs) ≡ false
    → ((xs : List Asking) → All (Accepts o) xs → All (λ (x : Asking). Lasting x.now as') xs → InTurn (stream_ids hs) (run (map later_call (map ask xs)) (loaded o ss as')))
    → Works o.payload_limit hs ps

-- ------------------------------------------------------------------ the plan's own job

-- Interleaving on, then each priority, in the list's order.
unfoldable pub priorities_of : List PlannedStream → List ℕ → List Setting
priorities_of [] [] = []
priorities_of [] (p ∷ ps) = []
priorities_of (h ∷ hs) [] = []
priorities_of (h ∷ hs) (p ∷ ps) = priority h.stream_id p ∷ priorities_of hs ps

abbrev pub plan_settings : List PlannedStream → List ℕ → List Setting
plan_settings hs ps = interleaving true ∷ priorities_of hs ps

-- The priorities that the call gives are accepted by a new queue with its payload limit; and where the messages are accepted, the first one of each
-- listed stream having
-- the size that the call was given, the listed streams get their first fragments in the list's order, as long as no added message expires.
unfoldable pub Request13Plan : Type 0
unfolding planned planned_streams after new_queue run streams_shown firsts still_without ends priorities_of first_size expiry
Request13Plan =
    (o : Options) (is ns ps : List ℕ) (as' : List Adding) (xs : List Later)
    → Created o → All (λ (i : ℕ). i < 2 ^ 16) is
    → planned o.payload_limit is ns ≡ made_plan ps
    → AllTyped (map adding_call as')
    → Accepted (run (map adding_call as') (set_up o (plan_settings (planned_streams is ns) ps)))
    → All (λ (h : PlannedStream). first_size h.stream_id as' ≡ some h.size) (planned_streams is ns)
    → AllTyped (map adding_call (added_later xs))
    → All (λ (t : ℕ). Lasting t as' × Lasting t (added_later xs)) (times xs)
    → Accepted (run (map setting_call (plan_settings (planned_streams is ns) ps)) (new_queue o)) × InTurn is (run (map later_call xs) (loaded o (plan_settings (planned_streams is ns) ps) as'))
