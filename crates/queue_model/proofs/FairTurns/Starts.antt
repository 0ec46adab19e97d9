-- Where a stream's start moves: by its own fragments only, and then by their cost, also where a last fragment lets it begin anew while another stream
-- waits. Assumes nothing.
use mathlib.Core.Path.{◌≡◌, refl, sym, ap, ◌∙◌}
use mathlib.Core.Bool.{Bool, true, false}
use mathlib.Core.List.{List, [], ◌∷◌}
use mathlib.Core.Option.{none, some}
use Prim.Native.Nat.{ℕ, zero, suc, ◌-◌, ◌≤◌, ◌<◌}
use native.Mathlib.Omega.{arith}
use Rattle.std.specs.Prelude.{if◌then◌else◌}
use Rattle.queue_model.specs.Logic.{is_some}
use Rattle.queue_model.specs.Types.{Weight, Active, Scheduler}
use Rattle.queue_model.specs.Scheduler.{moved, scheduled, active_key, find_active, put_active, without_active, rest_time, remove_stream, start_of, set_bytes_remaining, accept_last, accept_part, accept}
use Rattle.queue_model.proofs.Tests.{leb_true, leb_false, less, same, more, tri}
use Rattle.queue_model.proofs.Table.{found, missing, look_up, find_nil, find_put_same, find_put_other, find_without_same, find_without_other}
use Rattle.queue_model.proofs.Scheduler.{set_none, set_some}
use Rattle.queue_model.proofs.Invariant.Waits.{scheduled_id}
use Rattle.queue_model.proofs.FairTurns.Entries.{scheduled_start}

-- A stream's start; where it does not wait, the system time, at which it would begin.
pub start_at : ℕ → Scheduler → ℕ
start_at k sc = start_of sc.system_time (find_active k sc.active)

pub start_found : (k : ℕ) (sc : Scheduler) (a : Active) → find_active k sc.active ≡ some a → start_at k sc ≡ a.start
unfolding start_at start_of
start_found k sc a e = ap (start_of sc.system_time) e

pub start_missing : (k : ℕ) (sc : Scheduler) → find_active k sc.active ≡ none → start_at k sc ≡ sc.system_time
unfolding start_at start_of
start_missing k sc e = ap (start_of sc.system_time) e

-- An entry that is there, and none.
pub some_there : (k : ℕ) (as' : List Active) → is_some (find_active k as') ≡ true → find_active k as' ≡ none → ⊥
unfolding is_some
some_there k as' t e = let f : is_some (find_active k as') ≡ false = ap is_some e in let z : ◌≡◌ {A = ℕ} 0 1 = cc in omega arith

-- A stream that waits and keeps its entry keeps its start.
pub start_same : (k : ℕ) (sc sc' : Scheduler) → is_some (find_active k sc.active) ≡ true → find_active k sc'.active ≡ find_active k sc.active → start_at k sc' ≡ start_at k sc
start_same k sc sc' h e = elim (look_up active_key k sc.active) [
  | found a f ↦ start_found k sc' a (e ∙ f) ∙ sym (start_found k sc a f)
  | missing f ↦ absurd (some_there k sc.active h f)
]

-- ---- letting a stream wait

find_remove_other : (j k : ℕ) (sc : Scheduler) → (j ≡ k → ⊥) → find_active k (remove_stream j sc).active ≡ find_active k sc.active
unfolding remove_stream
find_remove_other j k sc n = find_without_other active_key k j sc.active (λ g. n (sym g))

find_remove_same : (k : ℕ) (sc : Scheduler) → find_active k (remove_stream k sc).active ≡ none
unfolding remove_stream
find_remove_same k sc = find_without_same active_key k sc.active

-- Other streams stay as they were.
pub find_set_other : (j n : ℕ) (w : Weight) (k : ℕ) (sc : Scheduler) → (j ≡ k → ⊥) → find_active k (set_bytes_remaining j n w sc).active ≡ find_active k sc.active
find_set_other j zero w k sc n = ap (λ (x : Scheduler). find_active k x.active) (set_none j w sc) ∙ find_remove_other j k sc n
find_set_other j (suc m) w k sc n =
    let t : ℕ = start_of sc.system_time (find_active j sc.active) in
    ap (λ (x : Scheduler). find_active k x.active) (set_some j (suc m) w sc (omega arith))
    ∙ find_put_other active_key k (scheduled sc.payload_limit j w t (suc m)) sc.active (λ g. n (sym (scheduled_id sc.payload_limit j w t (suc m)) ∙ g))

-- The system time stays while a stream waits.
rest_kept : (j t : ℕ) (as' : List Active) → is_some (find_active j as') ≡ true → rest_time t as' ≡ t
unfolding rest_time
rest_kept j t [] h = absurd (some_there j [] h (find_nil active_key j))
rest_kept j t (b ∷ bs) h = refl

remove_time : (j k : ℕ) (sc : Scheduler) → (j ≡ k → ⊥) → is_some (find_active j sc.active) ≡ true → (remove_stream k sc).system_time ≡ sc.system_time
unfolding remove_stream
remove_time j k sc d h = rest_kept j sc.system_time (without_active k sc.active) (ap is_some (find_without_other active_key j k sc.active d) ∙ h)

-- A stream that did not wait starts at the system time, if it waits now or not, while another one waits.
pub start_anew : (j k n : ℕ) (w : Weight) (sc : Scheduler) → (j ≡ k → ⊥) → is_some (find_active j sc.active) ≡ true → find_active k sc.active ≡ none → start_at k (set_bytes_remaining k n w sc) ≡ sc.system_time
unfolding start_of
start_anew j k zero w sc d h e = ap (start_at k) (set_none k w sc) ∙ start_missing k (remove_stream k sc) (find_remove_same k sc) ∙ remove_time j k sc d h
start_anew j k (suc m) w sc d h e =
    let t : ℕ = start_of sc.system_time (find_active k sc.active) in
    let a : Active = scheduled sc.payload_limit k w t (suc m) in
    let i : a.stream_id ≡ k = scheduled_id sc.payload_limit k w t (suc m) in
    let f : find_active k (set_bytes_remaining k (suc m) w sc).active ≡ some a =
    ap (λ (x : Scheduler). find_active k x.active) (set_some k (suc m) w sc (omega arith)) ∙ ap (λ (x : ℕ). find_active x (put_active a sc.active)) (sym i) ∙ find_put_same active_key a sc.active in
    start_found k (set_bytes_remaining k (suc m) w sc) a f ∙ scheduled_start sc.payload_limit k t (suc m) w ∙ ap (start_of sc.system_time) e

-- ---- handing out

module _ (a : Active) (n : ℕ) (sc : Scheduler) where
  part_is : n < a.bytes_remaining → accept a n sc ≡ accept_part a n sc
  unfolding accept
  part_is l = ap (λ (b : Bool). if b then accept_last a n sc else accept_part a n sc) (leb_false l)

  last_is : a.bytes_remaining ≤ n → accept a n sc ≡ accept_last a n sc
  unfolding accept
  last_is l = ap (λ (b : Bool). if b then accept_last a n sc else accept_part a n sc) (leb_true l)

  part_other : (k : ℕ) → (a.stream_id ≡ k → ⊥) → find_active k (accept_part a n sc).active ≡ find_active k sc.active
  unfolding accept_part
  part_other k h =
      let b : Active = scheduled sc.payload_limit a.stream_id a.weight (moved a n) (a.bytes_remaining - n) in
      find_put_other active_key k b sc.active (λ g. h (sym (scheduled_id sc.payload_limit a.stream_id a.weight (moved a n) (a.bytes_remaining - n)) ∙ g))

  last_other : (k : ℕ) → (a.stream_id ≡ k → ⊥) → find_active k (accept_last a n sc).active ≡ find_active k sc.active
  unfolding accept_last
  last_other k h = find_remove_other a.stream_id k (record { payload_limit = sc.payload_limit; current = some a.stream_id; system_time = moved a n; active = sc.active }) h

  -- Other streams stay as they were.
  pub accept_other : (k : ℕ) → (a.stream_id ≡ k → ⊥) → find_active k (accept a n sc).active ≡ find_active k sc.active
  accept_other k h = elim (tri n a.bytes_remaining) [
    | less l ↦ ap (λ (x : Scheduler). find_active k x.active) (part_is l) ∙ part_other k h
    | same g ↦ ap (λ (x : Scheduler). find_active k x.active) (last_is (omega arith)) ∙ last_other k h
    | more l ↦ ap (λ (x : Scheduler). find_active k x.active) (last_is (omega arith)) ∙ last_other k h
  ]

  part_found : find_active a.stream_id (accept_part a n sc).active ≡ some (scheduled sc.payload_limit a.stream_id a.weight (moved a n) (a.bytes_remaining - n))
  unfolding accept_part
  part_found =
      let b : Active = scheduled sc.payload_limit a.stream_id a.weight (moved a n) (a.bytes_remaining - n) in
      ap (λ (x : ℕ). find_active x (put_active b sc.active)) (sym (scheduled_id sc.payload_limit a.stream_id a.weight (moved a n) (a.bytes_remaining - n))) ∙ find_put_same active_key b sc.active

  -- The stream itself moves its start.
  pub accept_part_start : n < a.bytes_remaining → start_at a.stream_id (accept a n sc) ≡ moved a n
  accept_part_start l =
      ap (start_at a.stream_id) (part_is l) ∙ start_found a.stream_id (accept_part a n sc) (scheduled sc.payload_limit a.stream_id a.weight (moved a n) (a.bytes_remaining - n)) part_found
      ∙ scheduled_start sc.payload_limit a.stream_id (moved a n) (a.bytes_remaining - n) a.weight

  -- By a last fragment it stops waiting,
  pub accept_last_gone : a.bytes_remaining ≤ n → find_active a.stream_id (accept a n sc).active ≡ none
  unfolding accept_last
  accept_last_gone l = ap (λ (x : Scheduler). find_active a.stream_id x.active) (last_is l) ∙ find_remove_same a.stream_id (record { payload_limit = sc.payload_limit; current = some a.stream_id; system_time = moved a n; active = sc.active })

  -- and the system time is its moved start if another stream waits.
  pub accept_last_time : (j : ℕ) → (j ≡ a.stream_id → ⊥) → is_some (find_active j sc.active) ≡ true → a.bytes_remaining ≤ n → (accept a n sc).system_time ≡ moved a n
  unfolding accept_last
  accept_last_time j d h l = ap (λ (x : Scheduler). x.system_time) (last_is l) ∙ remove_time j a.stream_id (record { payload_limit = sc.payload_limit; current = some a.stream_id; system_time = moved a n; active = sc.active }) d h
