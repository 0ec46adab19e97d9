-- Restoring lets every stream with messages wait, and the stream that it remembers is one of them. Assumes nothing.
use mathlib.Core.Path.{◌≡◌, refl, sym, ◌∙◌, subst}
use mathlib.Core.Bool.{Bool, true, false}
use mathlib.Core.List.{List, [], ◌∷◌}
use mathlib.Core.Option.{Option, none, some, get_or}
use Prim.Native.Nat.{ℕ, ◌^◌, ◌<◌}
use native.Mathlib.Omega.{arith}
use Rattle.std.specs.Prelude.{if◌then◌else◌}
use Rattle.queue_model.specs.Types.{Item, Stream, Active, Scheduler}
use Rattle.queue_model.specs.Scheduler.{scheduled, find_active, start_of, put_active}
use Rattle.queue_model.specs.Streams.{weight_of, head_size, reschedule, reschedule_each, some_items, has_items}
use Rattle.queue_model.specs.Restore.{half_sent_first, first_half_sent, remember_half_sent}
use Rattle.queue_model.proofs.Table.{Every}
use Rattle.queue_model.proofs.Scheduler.{set_some, reschedule_of, each_nil, each_cons}
use Rattle.queue_model.proofs.Invariant.Messages.{WellItems}
use Rattle.queue_model.proofs.Invariant.Waits.{Holds, holds_put, holds_put_own, Remembers, Waits, scheduled_id}
use Rattle.queue_model.proofs.Invariant.Well.{Kept}

-- ---- a stream with messages waits once it is rescheduled, and goes on waiting while others are

module _ (il : Bool) (s : Stream) (sc : Scheduler) (p : 0 < head_size s.items) where
  -- Its entry.
  abbrev its_entry : Active
  its_entry = scheduled sc.payload_limit s.id (weight_of il s) (start_of sc.system_time (find_active s.id sc.active)) (head_size s.items)

  rescheduled_entry : (P : List Active → Type 0) → P (put_active its_entry sc.active) → P (reschedule il s sc).active
  rescheduled_entry P h =
      subst (λ (x : Scheduler). P x.active) (sym (reschedule_of il s sc)) (subst (λ (x : Scheduler). P x.active) (sym (set_some s.id (head_size s.items) (weight_of il s) sc p)) h)

  rescheduled_stays : (k : ℕ) → Holds k sc.active → Holds k (reschedule il s sc).active
  rescheduled_stays k h = rescheduled_entry (Holds k) (holds_put k its_entry sc.active h)

  rescheduled_waits : Holds s.id (reschedule il s sc).active
  rescheduled_waits =
      rescheduled_entry (Holds s.id) (subst (λ (x : ℕ). Holds x (put_active its_entry sc.active)) (scheduled_id sc.payload_limit s.id (weight_of il s) (start_of sc.system_time (find_active s.id sc.active)) (head_size s.items)) (holds_put_own its_entry sc.active))

pub positive : (is : List Item) → WellItems is → some_items is ≡ true → 0 < head_size is
unfolding some_items head_size
positive [] w e = let z : ◌≡◌ {A = ℕ} 0 1 = cc in absurd (omega arith)
positive (i ∷ is) w e = let u = w.0.unsent in omega arith

has_some : (s : Stream) → has_items s ≡ some_items s.items
unfolding has_items
has_some s = refl

each_stays : (il : Bool) (k : ℕ) (rs : List Stream) (sc : Scheduler) → Every Kept rs → Holds k sc.active → Holds k (reschedule_each il has_items rs sc).active
each_stays il k [] sc a h = subst (λ (x : Scheduler). Holds k x.active) (sym (each_nil il has_items sc)) h
each_stays il k (s ∷ rs) sc a h =
    subst (λ (x : Scheduler). Holds k x.active) (sym (each_cons il has_items s rs sc)) (each_stays il k rs (if has_items s then reschedule il s sc else sc) a.1 (go (has_items s) refl))
  where
    go : (b : Bool) → has_items s ≡ b → Holds k (if b then reschedule il s sc else sc).active
    go true e = rescheduled_stays il s sc (positive s.items a.0.well_items (sym (has_some s) ∙ e)) k h
    go false e = h

-- ---- the remembered stream

begun : (is : List Item) → half_sent_first is ≡ true → some_items is ≡ true
unfolding half_sent_first some_items
begun [] e = e
begun (i ∷ is) e = refl

each_recalls : (il : Bool) (k : ℕ) (rs : List Stream) (sc : Scheduler) → Every Kept rs → first_half_sent rs ≡ some k → Holds k (reschedule_each il has_items rs sc).active
unfolding first_half_sent
each_recalls il k [] sc a e = let z : ◌≡◌ {A = ℕ} 0 1 = cc in absurd (omega arith)
each_recalls il k (s ∷ rs) sc a e =
    subst (λ (x : Scheduler). Holds k x.active) (sym (each_cons il has_items s rs sc)) (go (half_sent_first s.items) refl e (λ f. each_recalls il k rs (if has_items s then reschedule il s sc else sc) a.1 f))
  where
    next : Scheduler
    next = if has_items s then reschedule il s sc else sc

    waits : (b : Bool) → has_items s ≡ b → b ≡ true → Holds s.id (if b then reschedule il s sc else sc).active
    waits true f g = rescheduled_waits il s sc (positive s.items a.0.well_items (sym (has_some s) ∙ f))
    waits false f g = let z : ◌≡◌ {A = ℕ} 0 1 = cc in absurd (omega arith)

    go : (b : Bool) → half_sent_first s.items ≡ b → ◌≡◌ {A = Option ℕ} (if b then some s.id else first_half_sent rs) (some k)
        → (first_half_sent rs ≡ some k → Holds k (reschedule_each il has_items rs next).active) → Holds k (reschedule_each il has_items rs next).active
    go true f g ih =
        let j : s.id ≡ k = cc in
        each_stays il k rs next a.1 (subst (λ (x : ℕ). Holds x next.active) j (waits (has_items s) refl (has_some s ∙ begun s.items f)))
    go false f g ih = ih g

half_sent_fits : (k : ℕ) (rs : List Stream) → Every Kept rs → first_half_sent rs ≡ some k → k < 2 ^ 16
unfolding first_half_sent
half_sent_fits k [] a e = let z : ◌≡◌ {A = ℕ} 0 1 = cc in absurd (omega arith)
half_sent_fits k (s ∷ rs) a e = go (half_sent_first s.items) e (λ f. half_sent_fits k rs a.1 f)
  where
    go : (b : Bool) → ◌≡◌ {A = Option ℕ} (if b then some s.id else first_half_sent rs) (some k) → (first_half_sent rs ≡ some k → k < 2 ^ 16) → k < 2 ^ 16
    go true f ih = let j : s.id ≡ k = cc in subst (λ (x : ℕ). x < 2 ^ 16) j a.0.id_fits
    go false f ih = ih f

pub recall_kept : (limit : ℕ) (P : Active → Type 0) (il : Bool) (ss : List Stream) (sc : Scheduler) → Every Kept ss → Waits limit P (reschedule_each il has_items ss sc) → Waits limit P (remember_half_sent il ss (reschedule_each il has_items ss sc))
unfolding remember_half_sent
recall_kept limit P true ss sc a w = w
recall_kept limit P false ss sc a w = record {
  sched = record {
    limit_same = w.sched.limit_same;
    rises = w.sched.rises;
    every = w.sched.every;
    numbers = w.sched.numbers;
    time_fits = w.sched.time_fits;
    current_fits = fits (first_half_sent ss) refl;
    remembers = recalls (first_half_sent ss) refl;
  };
  idle = w.idle;
}
  where
    fits : (c : Option ℕ) → first_half_sent ss ≡ c → get_or c 0 < 2 ^ 16
    fits none e = omega arith
    fits (some k) e = half_sent_fits k ss a e

    recalls : (c : Option ℕ) → first_half_sent ss ≡ c → Remembers c (reschedule_each false has_items ss sc).active
    recalls none e = tt
    recalls (some k) e = each_recalls false k ss sc a e
