-- How closing begins and how it ends: what it leaves of an open stream; a pending stream waits and is not among the ready ids, a paused one is; nothing waits once the next fragment says so, and every
-- fragment leaves a smaller total. Assumes nothing.
use mathlib.Core.Path.{◌≡◌, refl, sym, ap, ap₂, subst, ◌∙◌}
use mathlib.Core.Bool.{Bool, true, false, ◌||◌, or-true}
use mathlib.Core.List.{List, [], ◌∷◌}
use mathlib.Core.Option.{Option, none, some}
use Prim.Native.Nat.{ℕ, ◌-◌, ◌≤◌, ◌<◌}
use native.Mathlib.Omega.{arith}
use lib.Dec.{eqb}
use Rattle.std.specs.Prelude.{if◌then◌else◌}
use Rattle.queue_model.specs.Logic.{is_some, any}
use Rattle.queue_model.specs.Types.{Item, PauseState, not_paused, pending, paused, resetting, Stream, Active, Options, Queue, refused, done, nothing_waits, Step, remaining, with_items, model_with_pause}
use Rattle.queue_model.specs.Scheduler.{active_key, find_active, least_of, or_else, remembered, peek}
use Rattle.queue_model.specs.Streams.{find_stream, put_stream, stream_at, stream_key}
use Rattle.queue_model.specs.Refusals.{first_refusal, refused_or, checked}
use Rattle.queue_model.specs.Produce.{drop_head, drop_in, handed_out_last, handed_out_part, handed_out}
use Rattle.queue_model.specs.Close.{untouched, kept, swept_bytes, closed_state, closed, close_in, close_checks}
use Rattle.queue_model.specs.Reset.{is_paused, paused_ids}
use Rattle.queue_model.specs.Closing.{half_sent, alone, Pending, Paused}
use Rattle.queue_model.specs.Waiting.{is_waiting}
use Rattle.queue_model.specs.Run.{produce, close, step}
use Rattle.queue_model.specs.Demands.{Reachable}
use Rattle.queue_model.proofs.Table.{find_nil, find_here, find_there, find_put_same, own, other, is_own, not_in_nil, After, Rising}
use Rattle.queue_model.proofs.Tests.{eqb_true, eqb_false}
use Rattle.queue_model.proofs.Streams.{at_found, at_id, unsent_bytes}
use Rattle.queue_model.proofs.Invariant.Messages.{WellItems}
use Rattle.queue_model.proofs.Invariant.Waits.{Holds}
use Rattle.queue_model.proofs.Invariant.Well.{Kept, Well, amount_le}
use Rattle.queue_model.proofs.Invariant.Fine.{kept_rest}
use Rattle.queue_model.proofs.Invariant.Sends.{Chosen, head_kept}
use Rattle.queue_model.proofs.Invariant.Serving.{Entered, Served, serves_reachable}
use Rattle.queue_model.proofs.Invariant.Pending.{HalfSent, pending_half}
use Rattle.queue_model.proofs.Invariant.Passing.{Past, here, over, Ends, none_waits, hands_out, Next, refuses, passes, next_fragment}
use Rattle.queue_model.specs.Calls

-- ---- what closing leaves

-- Of a stream whose messages are these: it is paused if none is half-sent, else pending with that message first.
abbrev pub Begins : ℕ → Option Item → Queue → Type 0
Begins k none q = Paused k q
Begins k (some i) q = Pending k i q

kept_half : (is : List Item) → WellItems is → kept is ≡ alone (half_sent is)
unfolding kept untouched
kept_half [] w = refl
kept_half (i ∷ is) w = go (eqb i.offset 0)
  where
    go : (b : Bool) → (if b then kept is else i ∷ kept is) ≡ alone (if b then none else some i)
    go true = kept_rest is w.1
    go false = ap (λ (l : List Item). i ∷ l) (kept_rest is w.1)

closed_begins : (k : ℕ) (q : Queue) (t : Stream) (h : Option Item) → find_stream k q.streams ≡ some t → t.pause_state ≡ closed_state (alone h) → t.items ≡ alone h → Begins k h q
unfolding closed_state
closed_begins k q t none f s e = record { stream = t; found = f; state = s }
closed_begins k q t (some i) f s e = record { stream = t; behind = []; found = f; state = s; items = e }

pub record Leaves (k : ℕ) (h : Option Item) (r : Queue) : Type 0 where
  pub items_are : (stream_at r k).items ≡ alone h
  pub begins : Begins k h r

-- Closing an open stream drops all but its half-sent message.
closed_leaves : (k : ℕ) (q : Queue) → Kept (stream_at q k) → Leaves k (half_sent (stream_at q k).items) (closed q (stream_at q k)).next
unfolding closed
closed_leaves k q g =
    let s : Stream = stream_at q k in
    let l : List Item = kept s.items in
    let e : l ≡ alone (half_sent s.items) = kept_half s.items g.well_items in
    let t : Stream = model_with_pause (closed_state l) (with_items s (s.amount - swept_bytes s.items) l) in
    let f : find_stream k (put_stream t q.streams) ≡ some t = subst (λ (n : ℕ). find_stream n (put_stream t q.streams) ≡ some t) (at_id q.options q.streams k) (find_put_same stream_key t q.streams) in
    record {
      items_are = ap (λ (x : Stream). x.items) (at_found q.options (put_stream t q.streams) k t f) ∙ e;
      begins = closed_begins k (closed q s).next t (half_sent s.items) f (ap closed_state e) e;
    }

pub close_leaves : (places k : ℕ) (q : Queue) → Kept (stream_at q k) → (stream_at q k).pause_state ≡ not_paused → (step (close places k) q).outcome.answer ≡ done → Leaves k (half_sent (stream_at q k).items) (step (close places k) q).next
unfolding step Calls.close checked refused_or close_in
close_leaves places k q g o = go (first_refusal (close_checks places k q))
  where
    go : (r : Option ℕ) → (refused_or r q (close_in (stream_at q k).pause_state q (stream_at q k))).outcome.answer ≡ done
        → Leaves k (half_sent (stream_at q k).items) (refused_or r q (close_in (stream_at q k).pause_state q (stream_at q k))).next
    go none a = subst (λ (p : PauseState). Leaves k (half_sent (stream_at q k).items) (close_in p q (stream_at q k)).next) (sym o) (closed_leaves k q g)
    go (some n) a = let z : ◌≡◌ {A = ℕ} 0 1 = cc in absurd (omega arith)

-- ---- a pending stream waits, with a half-sent message

half_offset : (i : Item) (js is : List Item) → js ≡ i ∷ is → HalfSent js → 0 < i.offset
half_offset i js is e h = subst HalfSent e h

pub pending_offset : {o : Options} {q : Queue} → Reachable o q → (k : ℕ) (i : Item) → Pending k i q → 0 < i.offset
pending_offset r k i p = half_offset i p.stream.items p.behind p.items (pending_half r k p.stream p.found p.state)

pub pending_waits : {o : Options} {q : Queue} → Reachable o q → (k : ℕ) (i : Item) → Pending k i q → is_waiting k q ≡ true
unfolding is_waiting
pending_waits {q = q} r k i p =
    let a : Served q.scheduler.active k pending p.stream.items = subst (λ (x : PauseState). Served q.scheduler.active k x p.stream.items) p.state (serves_reachable r k p.stream p.found) in
    let b : Holds k q.scheduler.active = subst (Entered q.scheduler.active k) p.items a in
    ap is_some b.1

-- ---- a paused stream is among the ready ids

paused_test : (t : Stream) → t.pause_state ≡ paused → is_paused t ≡ true
unfolding is_paused
paused_test t e = rw e

pub paused_listed : (k : ℕ) (ss : List Stream) (s : Stream) → find_stream k ss ≡ some s → s.pause_state ≡ paused → any (eqb k) (paused_ids ss) ≡ true
unfolding paused_ids any
paused_listed k [] s e p = absurd (not_in_nil stream_key k s e)
paused_listed k (t ∷ ss) s e p = elim (is_own stream_key t k) [
  | own g ↦ (let z : t ≡ s = cc (find_here stream_key k t ss g, e) in let y = paused_test t (ap (λ (x : Stream). x.pause_state) z ∙ p) in let x = eqb_true (sym g) in rw (y, x))
  | other n ↦ go (is_paused t) (paused_listed k ss s (sym (find_there stream_key k t ss n) ∙ e) p)
]
  where
    go : (b : Bool) → any (eqb k) (paused_ids ss) ≡ true → any (eqb k) (if b then t.id ∷ paused_ids ss else paused_ids ss) ≡ true
    go true h = ap (λ (b : Bool). eqb k t.id || b) h ∙ or-true (eqb k t.id)
    go false h = h

-- A pending one is not.
above_unlisted : (k : ℕ) (ss : List Stream) → After stream_key k ss → any (eqb k) (paused_ids ss) ≡ false
unfolding paused_ids any
above_unlisted k [] a = refl
above_unlisted k (t ∷ ss) a = go (is_paused t) (above_unlisted k ss a.1)
  where
    go : (b : Bool) → any (eqb k) (paused_ids ss) ≡ false → any (eqb k) (if b then t.id ∷ paused_ids ss else paused_ids ss) ≡ false
    go true h = let n : k ≡ t.id → ⊥ = λ e. omega (arith, a.0) in ap₂ ◌||◌ (eqb_false n) h
    go false h = h

pending_test : (t : Stream) → t.pause_state ≡ pending → is_paused t ≡ false
unfolding is_paused
pending_test t e = rw e

pub pending_unlisted : (k : ℕ) (ss : List Stream) (s : Stream) → Rising stream_key ss → find_stream k ss ≡ some s → s.pause_state ≡ pending → any (eqb k) (paused_ids ss) ≡ false
unfolding paused_ids any
pending_unlisted k [] s r e p = absurd (not_in_nil stream_key k s e)
pending_unlisted k (t ∷ ss) s r e p = elim (is_own stream_key t k) [
  | own g ↦ (let z : t ≡ s = cc (find_here stream_key k t ss g, e) in let y = pending_test t (ap (λ (x : Stream). x.pause_state) z ∙ p) in rw y (above_unlisted k ss (subst (λ (n : ℕ). After stream_key n ss) g r.0)))
  | other n ↦ go (is_paused t) (eqb_false {a = k} {b = t.id} (λ g. n (sym g))) (pending_unlisted k ss s r.1 (sym (find_there stream_key k t ss n) ∙ e) p)
]
  where
    go : (b : Bool) → eqb k t.id ≡ false → any (eqb k) (paused_ids ss) ≡ false → any (eqb k) (if b then t.id ∷ paused_ids ss else paused_ids ss) ≡ false
    go true f h = ap₂ ◌||◌ f h
    go false f h = h

-- ---- nothing waits

-- Where no stream is chosen none is listed.
none_listed : (x : Option Active) (as' : List Active) → or_else x (least_of as') ≡ none → as' ≡ []
unfolding or_else least_of
none_listed none [] e = refl
none_listed none (a ∷ as') e = let z : ◌≡◌ {A = ℕ} 0 1 = cc in absurd (omega arith)
none_listed (some a) as' e = let z : ◌≡◌ {A = ℕ} 0 1 = cc in absurd (omega arith)

none_active : (k : ℕ) (q : Queue) → peek q.scheduler ≡ none → is_waiting k q ≡ false
unfolding peek is_waiting
none_active k q e = ap (λ (l : List Active). is_some (find_active k l)) (none_listed (remembered q.scheduler.current q.scheduler.active) q.scheduler.active e) ∙ ap is_some (find_nil active_key k)

pub nothing_waits_then : (k store places buffer now size : ℕ) (q : Queue) → Well q → (step (produce store places buffer now size) q).outcome.answer ≡ nothing_waits → is_waiting k (step (produce store places buffer now size) q).next ≡ false
unfolding step
nothing_waits_then k store places buffer now size q w a = go (next_fragment store places buffer now size q w)
  where
    s : Step
    s = Calls.produce store places buffer now size q

    ends : (r : Queue) → Ends r s → is_waiting k s.next ≡ false
    ends r (none_waits e f g) = ap (is_waiting k) g ∙ none_active k r e
    ends r (hands_out b t x is n e c l m f g) = let z : ◌≡◌ {A = ℕ} 0 1 = cc (f, a) in absurd (omega arith)

    go : Next now q s → is_waiting k s.next ≡ false
    go (refuses n e) = let f : s.outcome.answer ≡ refused n = ap (λ (x : Step). x.outcome.answer) e in let z : ◌≡◌ {A = ℕ} 0 1 = cc (f, a) in absurd (omega arith)
    go (passes p) = ends p.past p.ends

-- ---- the total falls

drop_total : (p : PauseState) (q : Queue) (s : Stream) (i : Item) (is : List Item) → (drop_in p q s i is).total ≤ q.total
unfolding drop_in drop_head
drop_total not_paused q s i is = omega arith
drop_total pending q s i is = omega arith
drop_total paused q s i is = omega arith
drop_total resetting q s i is = omega arith

past_total : (now : ℕ) (r q : Queue) → Past now r q → r.total ≤ q.total
past_total now r q here = omega arith
past_total now r q (over k s i is h e p) = let a = past_total now r (drop_in s.pause_state q s i is) p in let b = drop_total s.pause_state q s i is in omega arith

pub handed_total : (r : Queue) (a : Active) (t : Stream) (i : Item) (is : List Item) (n : ℕ) → (handed_out r a t i is n).total ≡ r.total - n
unfolding handed_out handed_out_last handed_out_part
handed_total r a t i is n = go (eqb n (remaining i))
  where
    go : (b : Bool) → (if b then handed_out_last r a t i is n else handed_out_part r a t i is n).total ≡ r.total - n
    go true = refl
    go false = refl

chosen_total : (r : Queue) (a : Active) (t : Stream) (i : Item) (is : List Item) → Well r → Chosen r a t i is → remaining i ≤ r.total
chosen_total r a t i is w c =
    let h = c.choice_head in
    let b : (stream_at r a.stream_id).amount ≡ t.amount = ap (λ (x : Stream). x.amount) (at_found r.options r.streams a.stream_id t h.found) in
    let d = amount_le r a.stream_id w in
    let e = (head_kept r a.stream_id t i is w h).counted in
    let f : unsent_bytes t.items ≡ unsent_bytes (i ∷ is) = ap unsent_bytes h.items in
    omega arith

-- A next fragment that is not refused says that nothing waits, or leaves a smaller total.
pub data Falls (q : Queue) (s : Step) : Type 0 where
  is_refused : (n : ℕ) → s.outcome.answer ≡ refused n → Falls q s
  nothing_left : s.outcome.answer ≡ nothing_waits → Falls q s
  falls : s.next.total < q.total → Falls q s

pub produce_falls : (store places buffer now size : ℕ) (q : Queue) → Well q → Falls q (step (produce store places buffer now size) q)
unfolding step
produce_falls store places buffer now size q w = go (next_fragment store places buffer now size q w)
  where
    s : Step
    s = Calls.produce store places buffer now size q

    ends : (r : Queue) → Well r → r.total ≤ q.total → Ends r s → Falls q s
    ends r v l (none_waits e f g) = nothing_left f
    ends r v l (hands_out a t x is n e c m z f g) =
        let b : s.next.total ≡ r.total - n = ap (λ (y : Queue). y.total) g ∙ handed_total r a t x is n in let d = chosen_total r a t x is v c in falls (omega arith)

    go : Next now q s → Falls q s
    go (refuses n e) = is_refused n (ap (λ (x : Step). x.outcome.answer) e)
    go (passes p) = ends p.past p.well (past_total now p.past q p.passed) p.ends
