-- The scheduler's times where only whole turns are handed out: every entry has started by the system time and finishes no earlier, and each change of the scheduler keeps it so. Assumes nothing.
use mathlib.Core.Path.{◌≡◌, refl, sym, ap, ◌∙◌, subst}
use mathlib.Core.Bool.{Bool}
use mathlib.Core.List.{List, [], ◌∷◌}
use mathlib.Core.Option.{Option, none, some}
use Prim.Native.Nat.{ℕ, zero, suc, ◌+◌, ◌-◌, ◌*◌, ◌/◌, ◌≤◌, ◌<◌, min, max}
use native.Mathlib.Omega.{arith}
use native.Mathlib.Nat.{div-mul-le_self, le-div_iff_mul-le, div-lt_iff_lt-mul}
use Rattle.std.specs.Prelude.{if◌then◌else◌}
use Rattle.queue_model.specs.Types.{Weight, weighted, Active, Scheduler}
use Rattle.queue_model.specs.Scheduler.{saturating, cost, moved, scheduled, active_key, find_active, without_active, forget, rest_time, remove_stream, start_of, set_bytes_remaining, least, least_of, or_else, remembered, peek, remember, accept_last, accept_part, accept}
use Rattle.queue_model.specs.Refusals.{max_word}
use Rattle.queue_model.proofs.Tests.{leb_true, leb_false, eqb_true}
use Rattle.queue_model.proofs.Table.{Rising, rising_put, rising_without, Every, every_put, every_weaken, every_both}
use Rattle.queue_model.proofs.Scheduler.{set_none, set_some}
use Rattle.queue_model.proofs.Choice.{AtMost, sooner, level, least_below}
use Rattle.queue_model.proofs.Invariant.Waits.{But, but_put, but_without, peek_in, scheduled_id, rest_le}

-- ---- the invariant

-- An entry at the system time t: it has started, its finish is not past, and its weight is the stream's priority.
pub record Fair (t limit : ℕ) (p : ℕ → ℕ) (a : Active) : Type 0 where
  pub started : a.start ≤ t
  pub ahead : t ≤ a.finish
  pub finish_is : a.finish ≡ saturating (a.start + cost a.weight (min a.bytes_remaining limit))
  pub weight_is : a.weight ≡ weighted (p a.stream_id)

-- All entries, and no stream is remembered.
pub record FairTimes (limit : ℕ) (p : ℕ → ℕ) (sc : Scheduler) : Type 0 where
  pub limit_is : sc.payload_limit ≡ limit
  pub rises : Rising active_key sc.active
  pub time_fits : sc.system_time ≤ max_word
  pub nobody : sc.current ≡ none
  pub each : Every (Fair sc.system_time limit p) sc.active

-- ---- costs

pub cost_rises : (w m n : ℕ) → m ≤ n → cost (weighted w) m ≤ cost (weighted w) n
unfolding cost
cost_rises w m n h =
    let a : ℕ = saturating (m * 1000000) in
    let b : ℕ = saturating (n * 1000000) in
    let l : saturating (m * 1000000) ≤ saturating (n * 1000000) = omega arith in
    let d = div-mul-le_self (saturating (m * 1000000)) (max w 1) in
    let pos : zero < max w 1 = omega arith in
    (le-div_iff_mul-le pos).1 (omega arith)

pub cost_nothing : (w : ℕ) → cost (weighted w) 0 ≡ 0
unfolding cost
cost_nothing w =
    let pos : zero < max w 1 = omega arith in
    let l : saturating (0 * 1000000) / max w 1 < 1 = (div-lt_iff_lt-mul pos).1 (omega arith) in omega arith

-- A fair entry's finish is at most a full fragment after its start.
pub finish_most : (t limit : ℕ) (p : ℕ → ℕ) (a : Active) → Fair t limit p a → a.finish ≤ a.start + cost (weighted (p a.stream_id)) limit
finish_most t limit p a f =
    let e = f.finish_is in
    let c : cost a.weight (min a.bytes_remaining limit) ≡ cost (weighted (p a.stream_id)) (min a.bytes_remaining limit) = ap (λ (w : Weight). cost w (min a.bytes_remaining limit)) f.weight_is in
    let l = cost_rises (p a.stream_id) (min a.bytes_remaining limit) limit (omega arith) in
    omega arith

-- ---- an entry that is set

pub fair_scheduled : (limit : ℕ) (p : ℕ → ℕ) (k t n : ℕ) (w : Weight) → t ≤ max_word → w ≡ weighted (p k) → Fair t limit p (scheduled limit k w t n)
unfolding scheduled
fair_scheduled limit p k t n w h e = record { started = omega arith; ahead = omega arith; finish_is = refl; weight_is = e }

pub scheduled_start : (limit k t n : ℕ) (w : Weight) → (scheduled limit k w t n).start ≡ t
unfolding scheduled
scheduled_start limit k t n w = refl

-- ---- a stream's entry is taken out

rest_fair : (limit t : ℕ) (p : ℕ → ℕ) (as' : List Active) → Every (Fair t limit p) as' → Every (Fair (rest_time t as') limit p) as'
unfolding rest_time
rest_fair limit t p [] e = tt
rest_fair limit t p (a ∷ as') e = e

forget_none : (k : ℕ) (c : Option ℕ) → c ≡ none → forget k c ≡ none
unfolding forget
forget_none k c e = ap (forget k) e

pub forget_own : (k : ℕ) → forget k (some k) ≡ none
unfolding forget
forget_own k = ap (λ (b : Bool). if b then none else some k) (eqb_true {a = k} {b = k} refl)

pub fair_remove : (limit : ℕ) (p : ℕ → ℕ) (k : ℕ) (sc : Scheduler) → sc.payload_limit ≡ limit → Rising active_key sc.active → sc.system_time ≤ max_word → forget k sc.current ≡ none → Every (But k (Fair sc.system_time limit p)) sc.active → FairTimes limit p (remove_stream k sc)
unfolding remove_stream
fair_remove limit p k sc l r h f e = record {
  limit_is = l;
  rises = rising_without active_key k sc.active r;
  time_fits = rest_le sc.system_time (without_active k sc.active) h;
  nobody = f;
  each = rest_fair limit sc.system_time p (without_active k sc.active) (but_without (Fair sc.system_time limit p) k sc.active e);
}

-- ---- a stream that is not listed begins to wait, or not

pub fair_set : (limit : ℕ) (p : ℕ → ℕ) (k n : ℕ) (w : Weight) (sc : Scheduler) → FairTimes limit p sc → find_active k sc.active ≡ none → w ≡ weighted (p k) → FairTimes limit p (set_bytes_remaining k n w sc)
unfolding start_of
fair_set limit p k zero w sc f e g =
    subst (FairTimes limit p) (sym (set_none k w sc))
    (fair_remove limit p k sc f.limit_is f.rises f.time_fits (forget_none k sc.current f.nobody) (every_weaken (Fair sc.system_time limit p) (But k (Fair sc.system_time limit p)) sc.active (λ a h n. h) f.each))
fair_set limit p k (suc n) w sc f e g =
    let t : ℕ = start_of sc.system_time (find_active k sc.active) in
    let a : Active = scheduled sc.payload_limit k w t (suc n) in
    let h : Fair sc.system_time limit p (scheduled limit k w sc.system_time (suc n)) = fair_scheduled limit p k sc.system_time (suc n) w f.time_fits g in
    let h₁ : Fair sc.system_time limit p (scheduled sc.payload_limit k w sc.system_time (suc n)) = subst (λ (l : ℕ). Fair sc.system_time limit p (scheduled l k w sc.system_time (suc n))) (sym f.limit_is) h in
    let h₂ : Fair sc.system_time limit p (scheduled sc.payload_limit k w (start_of sc.system_time (find_active k sc.active)) (suc n)) =
    subst (λ (x : Option Active). Fair sc.system_time limit p (scheduled sc.payload_limit k w (start_of sc.system_time x) (suc n))) (sym e) h₁ in
    subst (FairTimes limit p) (sym (set_some k (suc n) w sc (omega arith))) (record {
      limit_is = f.limit_is;
      rises = rising_put active_key a sc.active f.rises;
      time_fits = f.time_fits;
      nobody = f.nobody;
      each = every_put active_key (Fair sc.system_time limit p) a sc.active h₂ f.each;
    })

-- ---- the choice

-- With none remembered, the choice finishes first.
pub choice_first : (sc : Scheduler) (a : Active) → sc.current ≡ none → peek sc ≡ some a → Every (λ (b : Active). a.finish ≤ b.finish) sc.active
unfolding peek or_else remembered least_of
choice_first sc a e f = go sc.active (sym (ap (λ (c : Option ℕ). or_else (remembered c sc.active) (least_of sc.active)) e) ∙ f)
  where
    at_most : (x y : Active) → AtMost x y → x.finish ≤ y.finish
    at_most x y (sooner l) = omega arith
    at_most x y (level l i) = omega arith

    go : (as' : List Active) → least_of as' ≡ some a → Every (λ (b : Active). a.finish ≤ b.finish) as'
    go [] g = let z : ◌≡◌ {A = ℕ} 0 1 = cc in absurd (omega arith)
    go (b ∷ bs) g =
        let z : least b bs ≡ a = cc in
        every_weaken (AtMost a) (λ (x : Active). a.finish ≤ x.finish) (b ∷ bs) (λ x. at_most a x) (subst (λ (y : Active). Every (AtMost y) (b ∷ bs)) z (least_below b bs))

-- ---- handing out the whole turn of the choice

module _ (limit : ℕ) (p : ℕ → ℕ) (sc : Scheduler) (a : Active) (f : FairTimes limit p sc) (e : peek sc ≡ some a) where
  pub choice_fair : Fair sc.system_time limit p a
  choice_fair = peek_in (Fair sc.system_time limit p) sc a f.each e

  -- Its new start, which the system time becomes, is its finish.
  pub moved_is : moved a (min a.bytes_remaining limit) ≡ a.finish
  unfolding moved
  moved_is = sym choice_fair.finish_is

  moved_fits : moved a (min a.bytes_remaining limit) ≤ max_word
  unfolding moved
  moved_fits = omega arith

  -- All others have started by then and finish no earlier.
  others : Every (But a.stream_id (Fair (moved a (min a.bytes_remaining limit)) limit p)) sc.active
  others =
      let t = choice_fair.ahead in let m = moved_is in
      every_weaken (λ (b : Active). Fair sc.system_time limit p b × (a.finish ≤ b.finish)) (But a.stream_id (Fair (moved a (min a.bytes_remaining limit)) limit p)) sc.active
      (λ b h n. let x = h.0.started in let y = h.1 in record { started = omega arith; ahead = omega arith; finish_is = h.0.finish_is; weight_is = h.0.weight_is })
      (every_both (Fair sc.system_time limit p) (λ (b : Active). a.finish ≤ b.finish) sc.active f.each (choice_first sc a f.nobody e))

  remember_none : (w : Weight) (x : ℕ) → w ≡ weighted x → remember a.stream_id w ≡ none
  unfolding remember
  remember_none w x g = ap (remember a.stream_id) g

  -- After a fragment that is not the last.
  pub fair_part : min a.bytes_remaining limit < a.bytes_remaining → FairTimes limit p (accept a (min a.bytes_remaining limit) sc)
  unfolding accept accept_part
  fair_part l =
      let n : ℕ = min a.bytes_remaining limit in
      let t : ℕ = moved a n in
      let b : Active = scheduled sc.payload_limit a.stream_id a.weight t (a.bytes_remaining - n) in
      let h : Fair (moved a (min a.bytes_remaining limit)) limit p b = subst (λ (x : ℕ). Fair t limit p (scheduled x a.stream_id a.weight t (a.bytes_remaining - n))) (sym f.limit_is) (fair_scheduled limit p a.stream_id t (a.bytes_remaining - n) a.weight moved_fits choice_fair.weight_is) in
      let i : b.stream_id ≡ a.stream_id = scheduled_id sc.payload_limit a.stream_id a.weight t (a.bytes_remaining - n) in
      subst (λ (x : Bool). FairTimes limit p (if x then accept_last a n sc else accept_part a n sc)) (sym (leb_false l)) (record {
        limit_is = f.limit_is;
        rises = rising_put active_key b sc.active f.rises;
        time_fits = moved_fits;
        nobody = remember_none a.weight (p a.stream_id) choice_fair.weight_is;
        each = but_put (Fair t limit p) b sc.active h f.rises (subst (λ (x : ℕ). Every (But x (Fair t limit p)) sc.active) (sym i) others);
      })

  -- After the last.
  pub fair_last : a.bytes_remaining ≤ min a.bytes_remaining limit → FairTimes limit p (accept a (min a.bytes_remaining limit) sc)
  unfolding accept accept_last
  fair_last l =
      let n : ℕ = min a.bytes_remaining limit in
      subst (λ (x : Bool). FairTimes limit p (if x then accept_last a n sc else accept_part a n sc)) (sym (leb_true l))
      (fair_remove limit p a.stream_id (record { payload_limit = sc.payload_limit; current = some a.stream_id; system_time = moved a n; active = sc.active }) f.limit_is f.rises moved_fits (forget_own a.stream_id) others)
