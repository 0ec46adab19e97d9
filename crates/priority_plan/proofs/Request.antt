-- Request 13/13 on runs: the entries of a job, the order of its first fragments, and the plan's own job. Assumes nothing.
use mathlib.Core.Path.{◌≡◌, refl, ap, ap₂, ◌∙◌, subst}
use mathlib.Core.List.{List, [], ◌∷◌, map}
use mathlib.Core.Option.{some}
use Prim.Native.Nat.{ℕ}
use Rattle.queue_model.specs.Types.{Active, Queue}
use Rattle.queue_model.specs.Scheduler.{find_active}
use Rattle.queue_model.specs.Run.{run}
use Rattle.priority_plan.specs.Works.{PlannedStream, first_entry, entries, All}
use Rattle.priority_plan.specs.Jobs.{times, later_call, Prepared, AllPairs, loaded}
use Rattle.priority_plan.specs.Turns.{InTurn, stream_ids}
use Rattle.priority_plan.specs.Runs.{Request13Entries, Request13Order}
use Rattle.priority_plan.proofs.LeastSet.{entry_id}
use Rattle.priority_plan.proofs.Turns.{ids_of, turns}
use Rattle.priority_plan.proofs.Lasting.{all_last}
use Rattle.priority_plan.proofs.Loading.{loaded_well, loaded_on, loaded_free, loaded_time, loaded_entry}

pub pairs_map : (P Q : PlannedStream → ℕ → Type 0) (hs : List PlannedStream) (ps : List ℕ) → ((h : PlannedStream) (p : ℕ) → P h p → Q h p) → AllPairs P hs ps → AllPairs Q hs ps
pairs_map P Q [] [] f a = tt
pairs_map P Q [] (p ∷ ps) f a = absurd a
pairs_map P Q (h ∷ hs) [] f a = absurd a
pairs_map P Q (h ∷ hs) (p ∷ ps) f a = (f h p a.0, pairs_map P Q hs ps f a.1)

-- The entries of a job.
pub request13_entries : Request13Entries
unfolding Request13Entries
request13_entries o hs ps ss as' j = record {
  all_listed = pairs_map (Prepared ss as') (λ h p. find_active h.stream_id (loaded o ss as').scheduler.active ≡ some (first_entry o.payload_limit h p)) hs ps
      (λ h p r. loaded_entry o hs ps ss as' j h p r) j.prepared;
  none_remembered = loaded_free o hs ps ss as' j;
  time_zero = loaded_time o hs ps ss as' j;
}

-- Entries by their pairs.
pub entries_listed : (limit : ℕ) (as' : List Active) (hs : List PlannedStream) (ps : List ℕ) → AllPairs (λ h p. find_active h.stream_id as' ≡ some (first_entry limit h p)) hs ps → All (λ (e : Active). find_active e.stream_id as' ≡ some e) (entries limit hs ps)
unfolding entries
entries_listed limit as' [] [] a = tt
entries_listed limit as' [] (p ∷ ps) a = absurd a
entries_listed limit as' (h ∷ hs) [] a = absurd a
entries_listed limit as' (h ∷ hs) (p ∷ ps) a = (ap (λ (k : ℕ). find_active k as') (entry_id limit h p) ∙ a.0, entries_listed limit as' hs ps a.1)

pub entries_ids : (limit : ℕ) (P : PlannedStream → ℕ → Type 0) (hs : List PlannedStream) (ps : List ℕ) → AllPairs P hs ps → ids_of (entries limit hs ps) ≡ stream_ids hs
unfolding entries
entries_ids limit P [] [] a = refl
entries_ids limit P [] (p ∷ ps) a = absurd a
entries_ids limit P (h ∷ hs) [] a = absurd a
entries_ids limit P (h ∷ hs) (p ∷ ps) a = ap₂ ◌∷◌ (entry_id limit h p) (entries_ids limit P hs ps a.1)

-- The order of a job's first fragments.
pub request13_order : Request13Order
unfolding Request13Order Request13Entries
request13_order o hs ps ss as' xs j w tx n la =
    let l = request13_entries o hs ps ss as' j in
    let q : Queue = loaded o ss as' in
    subst (λ (is : List ℕ). InTurn is (run (map later_call xs) (loaded o ss as'))) (entries_ids o.payload_limit (Prepared ss as') hs ps j.prepared)
    (turns xs (entries o.payload_limit hs ps) q
    (record {
      well = loaded_well o hs ps ss as' j;
      on = loaded_on o hs ps ss as' j;
      free = l.none_remembered;
      listed = entries_listed o.payload_limit q.scheduler.active hs ps l.all_listed;
      order = w.order;
    })
    (record { typed = tx; waiting_last = all_last (λ (t : ℕ). t) q (times xs) n; added_last = la }))
