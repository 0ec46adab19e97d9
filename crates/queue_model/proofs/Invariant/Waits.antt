-- Every change of the scheduler keeps its invariant (specs/Well). Assumes nothing.
use mathlib.Core.Path.{◌≡◌, refl, sym, ap, ap₂, ◌∙◌, subst}
use mathlib.Core.Bool.{Bool, true, false, ◌&&◌, ◌||◌}
use mathlib.Core.List.{List, [], ◌∷◌}
use mathlib.Core.Option.{Option, none, some, get_or}
use Prim.Native.Nat.{ℕ, zero, suc, ◌^◌, ◌≤◌, ◌<◌}
use native.Mathlib.Omega.{arith}
use lib.Dec.{eqb}
use Rattle.std.specs.Prelude.{if◌then◌else◌}
use Rattle.queue_model.specs.Logic.{any}
use Rattle.queue_model.specs.Types.{Stream, Weight, Active, Scheduler}
use Rattle.queue_model.specs.Scheduler.{scheduled, find_active, put_active, without_active, forget, rest_time, remove_stream, start_of, set_bytes_remaining, least, least_of, or_else, remembered, peek, active_key}
use Rattle.queue_model.specs.Streams.{put_stream, weight_of, head_size, reschedule, reschedule_each, stream_key}
use Rattle.queue_model.specs.Refusals.{max_word}
pub use Rattle.queue_model.specs.Well.{WeightFits, Numbers, Listed, Holds, Remembers, Sched, Idle, Waits}
use Rattle.queue_model.proofs.Tests.{less, same, more, tri, eqb_true, eqb_false}
use Rattle.queue_model.proofs.Table.{without_nil, without_here, without_there, put_before, put_end, put_here, put_later, After, Rising, after_down, rising_put, rising_without, Every, every_put, every_find, every_weaken, find_put_same, find_put_other, find_without_other, not_in_nil, own, other, is_own}
use Rattle.queue_model.proofs.Scheduler.{set_none, set_some, reschedule_of, each_nil, each_cons}
use Rattle.queue_model.proofs.Choice.{least_in_lem}
use Rattle.queue_model.proofs.Streams.{size_at, size_put_same, size_put_other}

-- ---- entries but one

-- A property of every entry but a stream's.
abbrev pub But : ℕ → (Active → Type 0) → Active → Type 0
But k P a = (a.stream_id ≡ k → ⊥) → P a

but_after : (P : Active → Type 0) (k : ℕ) (as' : List Active) → After active_key k as' → Every (But k P) as' → Every P as'
but_after P k [] h e = tt
but_after P k (a ∷ as') h e = let l = h.0 in (e.0 (λ g. omega arith), but_after P k as' h.1 e.1)

-- That entry is set, or taken out.
pub but_put : (P : Active → Type 0) (a : Active) (as' : List Active) → P a → Rising active_key as' → Every (But a.stream_id P) as' → Every P (put_active a as')
but_put P a [] h r e = subst (Every P) (sym (put_end active_key a)) (h, tt)
but_put P a (b ∷ bs) h r e = elim (tri b.stream_id a.stream_id) [
  | less l ↦ subst (Every P) (sym (put_later active_key a b bs l)) (e.0 (λ g. omega arith), but_put P a bs h r.1 e.1)
  | same g ↦ subst (Every P) (sym (put_here active_key a b bs g)) (h, but_after P a.stream_id bs (subst (λ (k : ℕ). After active_key k bs) g r.0) e.1)
  | more l ↦ subst (Every P) (sym (put_before active_key a b bs l)) (h, but_after P a.stream_id (b ∷ bs) (l, after_down active_key bs l r.0) e)
]

pub but_without : (P : Active → Type 0) (k : ℕ) (as' : List Active) → Every (But k P) as' → Every P (without_active k as')
but_without P k [] e = subst (Every P) (sym (without_nil active_key k)) tt
but_without P k (a ∷ as') e = elim (is_own active_key a k) [
  | own g ↦ subst (Every P) (sym (without_here active_key k a as' g)) (but_without P k as' e.1)
  | other n ↦ subst (Every P) (sym (without_there active_key k a as' n)) (e.0 n, but_without P k as' e.1)
]

put_some : (a : Active) (as' : List Active) → put_active a as' ≡ [] → ⊥
put_some a as' e = not_in_nil active_key a.stream_id a (ap (find_active a.stream_id) (sym e) ∙ find_put_same active_key a as')

-- ---- the remembered stream

pub holds_put_own : (a : Active) (as' : List Active) → Holds a.stream_id (put_active a as')
holds_put_own a as' = (a, find_put_same active_key a as')

pub holds_put : (k : ℕ) (a : Active) (as' : List Active) → Holds k as' → Holds k (put_active a as')
holds_put k a as' h = elim (is_own active_key a k) [
  | own g ↦ subst (λ (x : ℕ). Holds x (put_active a as')) g (holds_put_own a as')
  | other n ↦ (h.0, find_put_other active_key k a as' n ∙ h.1)
]

remembers_put : (c : Option ℕ) (a : Active) (as' : List Active) → Remembers c as' → Remembers c (put_active a as')
remembers_put none a as' h = tt
remembers_put (some k) a as' h = holds_put k a as' h

remembers_without : (k : ℕ) (c : Option ℕ) (as' : List Active) → Remembers c as' → Remembers (forget k c) (without_active k as')
unfolding forget
remembers_without k none as' h = tt
remembers_without k (some c) as' h = go (eqb c k) refl
  where
    go : (b : Bool) → eqb c k ≡ b → Remembers (if b then none else some c) (without_active k as')
    go true e = tt
    go false e = (h.0, find_without_other active_key c k as' (λ g. let f = eqb_true g in let z : ◌≡◌ {A = ℕ} 0 1 = cc in omega arith) ∙ h.1)

-- ---- what an entry says

pub scheduled_numbers : (limit k : ℕ) (w : Weight) (t n : ℕ) → t ≤ max_word → Numbers (scheduled limit k w t n)
unfolding scheduled
scheduled_numbers limit k w t n h = record { start_fits = h; finish_fits = omega arith }

pub scheduled_id : (limit k : ℕ) (w : Weight) (t n : ℕ) → (scheduled limit k w t n).stream_id ≡ k
unfolding scheduled
scheduled_id limit k w t n = refl

pub scheduled_listed : (il : Bool) (ss : List Stream) (limit k : ℕ) (w : Weight) (t n : ℕ) → WeightFits il w → 0 < n → n ≡ size_at k ss → Listed il ss (scheduled limit k w t n)
unfolding scheduled
scheduled_listed il ss limit k w t n f h e = record { weighs = f; sized = e; positive = h }

start_fits_of : (t k : ℕ) (as' : List Active) → t ≤ max_word → Every Numbers as' → start_of t (find_active k as') ≤ max_word
unfolding start_of
start_fits_of t k as' h e = go (find_active k as') refl
  where
    go : (x : Option Active) → find_active k as' ≡ x → start_of t x ≤ max_word
    go none f = h
    go (some a) f = (every_find active_key Numbers k a as' e f).start_fits

-- ---- whatever is said of every entry

pub sched_weaken : (limit : ℕ) (P Q : Active → Type 0) (sc : Scheduler) → ((a : Active) → P a → Q a) → Sched limit P sc → Sched limit Q sc
sched_weaken limit P Q sc h w = record { limit_same = w.limit_same; rises = w.rises; every = every_weaken P Q sc.active h w.every; numbers = w.numbers; time_fits = w.time_fits; current_fits = w.current_fits; remembers = w.remembers }

pub waits_weaken : (limit : ℕ) (P Q : Active → Type 0) (sc : Scheduler) → ((a : Active) → P a → Q a) → Waits limit P sc → Waits limit Q sc
waits_weaken limit P Q sc h w = record { sched = sched_weaken limit P Q sc h w.sched; idle = w.idle }

forget_fits : (k : ℕ) (c : Option ℕ) → get_or c 0 < 2 ^ 16 → get_or (forget k c) 0 < 2 ^ 16
unfolding forget
forget_fits k none h = h
forget_fits k (some c) h = go (eqb c k)
  where
    go : (b : Bool) → get_or (if b then none else some c) 0 < 2 ^ 16
    go true = omega arith
    go false = h

pub rest_le : (t : ℕ) (as' : List Active) → t ≤ max_word → rest_time t as' ≤ max_word
unfolding rest_time
rest_le t [] h = omega arith
rest_le t (a ∷ as') h = h

rest_idle : (t : ℕ) (as' : List Active) → as' ≡ [] → rest_time t as' ≡ 0
unfolding rest_time
rest_idle t as' e = ap (rest_time t) e

-- Taking a stream's entry out, whatever it said.
pub remove_kept : (limit : ℕ) (P : Active → Type 0) (k : ℕ) (sc : Scheduler) → Sched limit (But k P) sc → Waits limit P (remove_stream k sc)
unfolding remove_stream
remove_kept limit P k sc w = record {
  sched = record {
    limit_same = w.limit_same;
    rises = rising_without active_key k sc.active w.rises;
    every = but_without P k sc.active w.every;
    numbers = but_without Numbers k sc.active (every_weaken Numbers (But k Numbers) sc.active (λ a h n. h) w.numbers);
    time_fits = rest_le sc.system_time (without_active k sc.active) w.time_fits;
    current_fits = forget_fits k sc.current w.current_fits;
    remembers = remembers_without k sc.current sc.active w.remembers;
  };
  idle = rest_idle sc.system_time (without_active k sc.active);
}

-- Setting a stream's entry, whatever it said.
pub put_kept : (limit : ℕ) (P : Active → Type 0) (a : Active) (c : Option ℕ) (t : ℕ) (sc : Scheduler) → Sched limit (But a.stream_id P) sc → P a → Numbers a → t ≤ max_word → get_or c 0 < 2 ^ 16 → Remembers c (put_active a sc.active)
    → Waits limit P (record { payload_limit = sc.payload_limit; current = c; system_time = t; active = put_active a sc.active })
put_kept limit P a c t sc w h n l f r = record {
  sched = record {
    limit_same = w.limit_same;
    rises = rising_put active_key a sc.active w.rises;
    every = but_put P a sc.active h w.rises w.every;
    numbers = every_put active_key Numbers a sc.active n w.numbers;
    time_fits = l;
    current_fits = f;
    remembers = r;
  };
  idle = λ e. absurd (put_some a sc.active e);
}

-- Letting a stream wait with n bytes, or none.
pub set_kept : (limit : ℕ) (P : Active → Type 0) (k n : ℕ) (w : Weight) (sc : Scheduler) → Sched limit (But k P) sc → ((t : ℕ) → 0 < n → P (scheduled limit k w t n)) → Waits limit P (set_bytes_remaining k n w sc)
set_kept limit P k zero w sc h p = subst (Waits limit P) (sym (set_none k w sc)) (remove_kept limit P k sc h)
set_kept limit P k (suc n) w sc h p =
    let t : ℕ = start_of sc.system_time (find_active k sc.active) in
    let a : Active = scheduled sc.payload_limit k w t (suc n) in
    subst (Waits limit P) (sym (set_some k (suc n) w sc (omega arith)))
    (put_kept limit P a sc.current sc.system_time sc (subst (λ (x : ℕ). Sched limit (But x P) sc) (sym (scheduled_id sc.payload_limit k w t (suc n))) h)
    (subst (λ (x : ℕ). P (scheduled x k w t (suc n))) (sym h.limit_same) (p t (omega arith)))
    (scheduled_numbers sc.payload_limit k w t (suc n) (start_fits_of sc.system_time k sc.active h.time_fits h.numbers)) h.time_fits h.current_fits (remembers_put sc.current a sc.active h.remembers))

pub weight_fits_of : (il : Bool) (s : Stream) → s.priority < 2 ^ 16 → WeightFits il (weight_of il s)
unfolding weight_of
weight_fits_of true s h = (refl, h)
weight_fits_of false s h = refl

-- ---- when the streams change

-- No first message changes: nothing to do.
pub waits_same : (limit : ℕ) (il : Bool) (ss ss' : List Stream) (sc : Scheduler) → ((k : ℕ) → 0 < size_at k ss → size_at k ss' ≡ size_at k ss) → Waits limit (Listed il ss) sc → Waits limit (Listed il ss') sc
waits_same limit il ss ss' sc h w =
    waits_weaken limit (Listed il ss) (Listed il ss') sc (λ a l. let e = l.sized in let p = l.positive in record { weighs = l.weighs; sized = l.sized ∙ sym (h a.stream_id (omega arith)); positive = l.positive }) w

-- A stream is put: all entries but its own stay right.
pub waits_put : (limit : ℕ) (il : Bool) (s : Stream) (ss : List Stream) (sc : Scheduler) → Sched limit (Listed il ss) sc → Sched limit (But s.id (Listed il (put_stream s ss))) sc
waits_put limit il s ss sc w =
    sched_weaken limit (Listed il ss) (But s.id (Listed il (put_stream s ss))) sc
    (λ a l n. record { weighs = l.weighs; sized = l.sized ∙ sym (size_put_other a.stream_id s ss (λ g. n (sym g))); positive = l.positive }) w

-- A stream is put whose first message is as large as before, or that had none.
pub waits_put_same : (limit : ℕ) (il : Bool) (s : Stream) (ss : List Stream) (sc : Scheduler) → (0 < size_at s.id ss → head_size s.items ≡ size_at s.id ss) → Waits limit (Listed il ss) sc → Waits limit (Listed il (put_stream s ss)) sc
waits_put_same limit il s ss sc h w = waits_same limit il ss (put_stream s ss) sc go w
  where
    go : (k : ℕ) → 0 < size_at k ss → size_at k (put_stream s ss) ≡ size_at k ss
    go k p = elim (is_own stream_key s k) [
      | own g ↦ subst (λ (x : ℕ). size_at x (put_stream s ss) ≡ size_at x ss) g (size_put_same s ss ∙ h (subst (λ (x : ℕ). 0 < size_at x ss) (sym g) p))
      | other n ↦ size_put_other k s ss n
    ]

-- A stream is put and waits with its first message or ends waiting.
pub waits_put_set : (limit : ℕ) (il : Bool) (s : Stream) (n : ℕ) (w : Weight) (ss : List Stream) (sc : Scheduler) → (0 < n → n ≡ head_size s.items) → WeightFits il w → Sched limit (Listed il ss) sc → Waits limit (Listed il (put_stream s ss)) (set_bytes_remaining s.id n w sc)
waits_put_set limit il s n w ss sc h f x =
    set_kept limit (Listed il (put_stream s ss)) s.id n w sc (waits_put limit il s ss sc x) (λ t p. scheduled_listed il (put_stream s ss) limit s.id w t n f p (h p ∙ sym (size_put_same s ss)))

-- A stream is put and rescheduled.
pub waits_put_rescheduled : (limit : ℕ) (il : Bool) (s : Stream) (ss : List Stream) (sc : Scheduler) → s.priority < 2 ^ 16 → Sched limit (Listed il ss) sc → Waits limit (Listed il (put_stream s ss)) (reschedule il s sc)
waits_put_rescheduled limit il s ss sc h x =
    subst (Waits limit (Listed il (put_stream s ss))) (sym (reschedule_of il s sc)) (waits_put_set limit il s (head_size s.items) (weight_of il s) ss sc (λ p. refl) (weight_fits_of il s h) x)

-- ---- rescheduling the streams of a list that pass a test

-- Whether an id is still to be rescheduled.
abbrev pub due : (Stream → Bool) → ℕ → List Stream → Bool
due test k ss = any (λ (s : Stream). test s && eqb s.id k) ss

-- A stream whose entry would be right.
pub record Ready (ss : List Stream) (s : Stream) : Type 0 where
  pub ready_size : head_size s.items ≡ size_at s.id ss
  pub ready_weight : s.priority < 2 ^ 16

pub each_kept : (limit : ℕ) (il : Bool) (test : Stream → Bool) (rs ss : List Stream) (sc : Scheduler) → Every (Ready ss) rs
    → Waits limit (λ a. due test a.stream_id rs ≡ false → Listed il ss a) sc → Waits limit (Listed il ss) (reschedule_each il test rs sc)
unfolding any
each_kept limit il test [] ss sc r w = subst (Waits limit (Listed il ss)) (sym (each_nil il test sc)) (waits_weaken limit (λ a. false ≡ false → Listed il ss a) (Listed il ss) sc (λ a h. h refl) w)
each_kept limit il test (s ∷ rs) ss sc r w =
    subst (Waits limit (Listed il ss)) (sym (each_cons il test s rs sc)) (each_kept limit il test rs ss (if test s then reschedule il s sc else sc) r.1 (go (test s) w))
  where
    -- What is asked of the entries once s is done.
    Q : Active → Type 0
    Q a = due test a.stream_id rs ≡ false → Listed il ss a

    P : Bool → Active → Type 0
    P b a = ((b && eqb s.id a.stream_id) || due test a.stream_id rs) ≡ false → Listed il ss a

    go : (b : Bool) → Waits limit (P b) sc → Waits limit Q (if b then reschedule il s sc else sc)
    go true v =
        let u : Sched limit (But s.id Q) sc =
        sched_weaken limit (P true) (But s.id Q) sc (λ a h n d. h (ap₂ (λ (x y : Bool). x || y) (eqb_false {a = s.id} {b = a.stream_id} (λ g. n (sym g))) d)) v.sched in
        subst (Waits limit Q) (sym (reschedule_of il s sc))
        (set_kept limit Q s.id (head_size s.items) (weight_of il s) sc u (λ t p d. scheduled_listed il ss limit s.id (weight_of il s) t (head_size s.items) (weight_fits_of il s r.0.ready_weight) p r.0.ready_size))
    go false v = v

-- ---- what the scheduler chooses is listed

pub peek_in : (P : Active → Type 0) (sc : Scheduler) (a : Active) → Every P sc.active → peek sc ≡ some a → P a
unfolding peek or_else remembered least_of
peek_in P sc a e f = go (remembered sc.current sc.active) sc.active e f (λ b g. in_remembered sc.current b g)
  where
    in_remembered : (c : Option ℕ) (b : Active) → remembered c sc.active ≡ some b → P b
    in_remembered none b g = let z : ◌≡◌ {A = ℕ} 0 1 = cc in absurd (omega arith)
    in_remembered (some k) b g = every_find active_key P k b sc.active e g

    go : (x : Option Active) (as' : List Active) → Every P as' → or_else x (least_of as') ≡ some a → ((b : Active) → x ≡ some b → P b) → P a
    go (some b) as' v g h = h a g
    go none [] v g h = let z : ◌≡◌ {A = ℕ} 0 1 = cc in absurd (omega arith)
    go none (b ∷ bs) v g h = let z : least b bs ≡ a = cc in subst P z (least_in_lem P b bs v.0 v.1)
