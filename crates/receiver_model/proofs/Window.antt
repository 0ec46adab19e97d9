-- Every receiver that any calls lead to, with TSNs of 32 bits: those ahead are at most 1,024 past the last one without a gap, each once, and the next one is not among them. So a bit for each TSN
-- modulo 1,024 holds them. Assumes nothing.
use mathlib.Core.Path.{◌≡◌, refl, sym, ap, ◌∙◌, subst}
use mathlib.Core.Bool.{Bool, true, false, not, ◌||◌}
use mathlib.Core.List.{List, [], ◌∷◌, map}
use mathlib.Core.Option.{Option, none, some}
use Prim.Native.Nat.{ℕ, zero, suc, ◌+◌, ◌-◌, ◌%◌, ◌^◌, ◌≤◌, ◌<◌}
use native.Mathlib.Omega.{arith}
use lib.Dec.{eqb, ltb, ltb→lt}
use lib.ListN.{length}
use borrow.Author.Tests.{not-false}
use Rattle.types.specs.Wrap.{wrap_suc}
use Rattle.std.specs.Prelude.{if◌then◌else◌}
use Rattle.queue_model.specs.Logic.{any}
use Rattle.queue_model.specs.Refusals.{◌when◌, first_refusal}
use Rattle.queue_model.proofs.Tests.{eqb_true, holds, less, same, more, tri}
use Rattle.queue_model.proofs.Checks.{not_less}
use Rattle.receiver_model.specs.Lists.{member, keep, count}
use Rattle.receiver_model.specs.Tsn.{wrapped_difference, above_zero, is_after, is_far, before}
use Rattle.receiver_model.specs.Types.{Kind, Chunk, Assembled, Receiver, Step, refused, accepted, repeated, fetched, reply}
use Rattle.receiver_model.specs.Assembly.{whole_among}
use Rattle.receiver_model.specs.Receive.{held, makes_repeat, repeats, no_room, Passed, pass, settle, accept, refused_or, early_checks, late_checks, receive_new, receive_chunk, new_receiver}
use Rattle.receiver_model.specs.Receive as Receive
use Rattle.receiver_model.specs.Fetch.{as_message, with_ready, fetch_from}
use Rattle.receiver_model.specs.Fetch as Fetch
use Rattle.receiver_model.specs.Run.{Call, receive, fetch, step, after}
use Rattle.receiver_model.proofs.Lists.{true≢false, and_left, or_left, or_right, Value, yes_is, no_is, value, count_nil, count_here, count_there, equal, other, compare_same, count_keep_yes, count_keep_no, member_nil, member_to}
use Rattle.receiver_model.proofs.Pass.{pass_stops, pass_zero, pass_yes, pass_no}
use Rattle.receiver_model.proofs.Theorem.{first_passes}

-- ---- the window

-- TSNs ahead of a last one.
pub record Ahead (last : ℕ) (ts : List ℕ) : Type 0 where
  pub last_fits : last < 2 ^ 32
  pub fits : (t : ℕ) → 0 < count t ts → t < 2 ^ 32
  pub after : (t : ℕ) → 0 < count t ts → 0 < wrapped_difference 32 t last
  pub near : (t : ℕ) → 0 < count t ts → wrapped_difference 32 t last ≤ 1024
  pub once : (t : ℕ) → count t ts ≤ 1

-- One step on: the others are one nearer.
nearer : (t last : ℕ) → t < 2 ^ 32 → last < 2 ^ 32 → 0 < wrapped_difference 32 t last → (t ≡ wrap_suc 32 last → ⊥) → suc (wrapped_difference 32 t (wrap_suc 32 last)) ≡ wrapped_difference 32 t last
nearer t last h g p d = omega arith

still_ahead : (t last : ℕ) → t < 2 ^ 32 → last < 2 ^ 32 → 0 < wrapped_difference 32 t last → (t ≡ wrap_suc 32 last → ⊥) → 0 < wrapped_difference 32 t (wrap_suc 32 last)
still_ahead t last h g p d = omega arith

pub step_ahead : (last : ℕ) (ts : List ℕ) → Ahead last ts → Ahead (wrap_suc 32 last) (keep (λ (a : ℕ). not (eqb a (wrap_suc 32 last))) ts)
step_ahead last ts v = record {
  last_fits = omega arith;
  fits = λ t l. v.fits t (old t l);
  after = λ t l. still_ahead t last (v.fits t (old t l)) v.last_fits (v.after t (old t l)) (differs t l);
  near = λ t l. (let a = nearer t last (v.fits t (old t l)) v.last_fits (v.after t (old t l)) (differs t l) in let b = v.near t (old t l) in below (wrapped_difference 32 t (wrap_suc 32 last)) (wrapped_difference 32 t last) a b);
  once = λ t. elim (value (test t)) [
    | yes_is e ↦ (let a = count_keep_yes t test ts e in let b = v.once t in omega arith)
    | no_is e ↦ (let a = count_keep_no t test ts e in omega arith)
  ];
}
  where
    test : ℕ → Bool
    test a = not (eqb a (wrap_suc 32 last))

    below : (a b : ℕ) → suc a ≡ b → b ≤ 1024 → a ≤ 1024
    below a b e h = omega arith

    old : (t : ℕ) → 0 < count t (keep test ts) → 0 < count t ts
    old t l = elim (value (test t)) [
      | yes_is e ↦ (let a = count_keep_yes t test ts e in omega arith)
      | no_is e ↦ (let a = count_keep_no t test ts e in absurd (omega arith))
    ]

    differs : (t : ℕ) → 0 < count t (keep test ts) → t ≡ wrap_suc 32 last → ⊥
    differs t l e = let a = count_keep_no t test ts (ap not (eqb_true {a = t} {b = wrap_suc 32 last} e)) in omega arith

pass_ahead : (n last : ℕ) (ts : List ℕ) → Ahead last ts → Ahead (pass n last ts).last_tsn (pass n last ts).ahead
pass_ahead zero last ts v = subst (λ (p : Passed). Ahead p.last_tsn p.ahead) (sym (pass_zero last ts)) v
pass_ahead (suc n) last ts v = go (value (member (wrap_suc 32 last) ts)) (pass_ahead n (wrap_suc 32 last) (keep (λ (a : ℕ). not (eqb a (wrap_suc 32 last))) ts) (step_ahead last ts v))
  where
    go : Value (member (wrap_suc 32 last) ts) → Ahead (pass n (wrap_suc 32 last) (keep (λ (a : ℕ). not (eqb a (wrap_suc 32 last))) ts)).last_tsn (pass n (wrap_suc 32 last) (keep (λ (a : ℕ). not (eqb a (wrap_suc 32 last))) ts)).ahead
        → Ahead (pass (suc n) last ts).last_tsn (pass (suc n) last ts).ahead
    go (yes_is e) x = subst (λ (p : Passed). Ahead p.last_tsn p.ahead) (sym (pass_yes n last ts e)) x
    go (no_is e) x = subst (λ (p : Passed). Ahead p.last_tsn p.ahead) (sym (pass_no n last ts e)) v

-- ---- a chunk accepted

pub record Window (r : Receiver) : Type 0 where
  pub ahead : Ahead r.last_tsn r.ahead
  pub gap : member (wrap_suc 32 r.last_tsn) r.ahead ≡ false

more_ahead : (c : Chunk) (r : Receiver) → Ahead r.last_tsn r.ahead → c.tsn < 2 ^ 32 → repeats c r ≡ false → is_far c.tsn r.last_tsn ≡ false → Ahead r.last_tsn (c.tsn ∷ r.ahead)
unfolding repeats is_after is_far
more_ahead c r v h p f = record {
  last_fits = v.last_fits;
  fits = λ t l. elim (compare_same c.tsn t) [ equal e ↦ subst (λ (y : ℕ). y < 2 ^ 32) e h | other d ↦ v.fits t (rest t d l) ];
  after = λ t l. elim (compare_same c.tsn t) [ equal e ↦ subst (λ (y : ℕ). 0 < wrapped_difference 32 y r.last_tsn) e positive | other d ↦ v.after t (rest t d l) ];
  near = λ t l. elim (compare_same c.tsn t) [ equal e ↦ subst (λ (y : ℕ). wrapped_difference 32 y r.last_tsn ≤ 1024) e (not_less 1024 (wrapped_difference 32 c.tsn r.last_tsn) f) | other d ↦ v.near t (rest t d l) ];
  once = λ t. elim (compare_same c.tsn t) [
    | equal e ↦ (let a = count_here t c.tsn r.ahead e in let b : count t r.ahead ≡ 0 = ap (λ (y : ℕ). count y r.ahead) (sym e) ∙ new in omega arith)
    | other d ↦ (let a = count_there t c.tsn r.ahead d in let b = v.once t in omega arith)
  ];
}
  where
    rest : (t : ℕ) → (c.tsn ≡ t → ⊥) → 0 < count t (c.tsn ∷ r.ahead) → 0 < count t r.ahead
    rest t d l = let a = count_there t c.tsn r.ahead d in omega arith

    early : not (above_zero 32 (wrapped_difference 32 c.tsn r.last_tsn)) || member c.tsn r.ahead ≡ false
    early = or_left (not (above_zero 32 (wrapped_difference 32 c.tsn r.last_tsn)) || member c.tsn r.ahead) (any (makes_repeat r.kind c) (held r)) p

    above : above_zero 32 (wrapped_difference 32 c.tsn r.last_tsn) ≡ true
    above = not-false (above_zero 32 (wrapped_difference 32 c.tsn r.last_tsn)) (or_left (not (above_zero 32 (wrapped_difference 32 c.tsn r.last_tsn))) (member c.tsn r.ahead) early)

    positive : 0 < wrapped_difference 32 c.tsn r.last_tsn
    positive = ltb→lt 0 (wrapped_difference 32 c.tsn r.last_tsn) (holds (ltb 0 (wrapped_difference 32 c.tsn r.last_tsn)) (and_left (ltb 0 (wrapped_difference 32 c.tsn r.last_tsn)) (ltb (wrapped_difference 32 c.tsn r.last_tsn) (2 ^ 31)) above))

    new : count c.tsn r.ahead ≡ 0
    new = elim (tri 0 (count c.tsn r.ahead)) [
      | less l ↦ absurd (true≢false (here l) (or_right (not (above_zero 32 (wrapped_difference 32 c.tsn r.last_tsn))) (member c.tsn r.ahead) early))
      | same e ↦ sym e
      | more l ↦ absurd (omega arith)
    ]
      where
        same_map : (ys : List ℕ) → map (λ (x : ℕ). x) ys ≡ ys
        same_map [] = refl
        same_map (y ∷ ys) = ap (◌∷◌ y) (same_map ys)

        here : 0 < count c.tsn r.ahead → member c.tsn r.ahead ≡ true
        here l = ap (member c.tsn) (sym (same_map r.ahead)) ∙ member_to (λ (x : ℕ). x) c.tsn r.ahead l

settle_window : (c : Chunk) (p : Passed) (r : Receiver) (cs : List Chunk) (o : Option Assembled) → Ahead p.last_tsn p.ahead → member (wrap_suc 32 p.last_tsn) p.ahead ≡ false → Window (settle c p r cs o)
unfolding settle
settle_window c p r cs none a g = record { ahead = a; gap = g }
settle_window c p r cs (some m) a g = record { ahead = a; gap = g }

accept_window : (c : Chunk) (r : Receiver) → Window r → c.tsn < 2 ^ 32 → repeats c r ≡ false → is_far c.tsn r.last_tsn ≡ false → Window (accept c r)
unfolding accept
accept_window c r v h p f =
    settle_window c (pass (suc (length r.ahead)) r.last_tsn (c.tsn ∷ r.ahead)) r (c ∷ r.loose) (whole_among r.kind (c ∷ r.loose) (c ∷ r.loose))
    (pass_ahead (suc (length r.ahead)) r.last_tsn (c.tsn ∷ r.ahead) (more_ahead c r v.ahead h p f))
    (pass_stops (suc (length r.ahead)) r.last_tsn (c.tsn ∷ r.ahead) (omega arith))

-- ---- any calls

-- The TSN of a chunk that is read has 32 bits.
abbrev pub TypedTsn : Call → Type 0
TypedTsn (receive store none) = Unit {0}
TypedTsn (receive store (some c)) = c.tsn < 2 ^ 32
TypedTsn (fetch store b) = Unit {0}

abbrev pub TypedTsns : List Call → Type 0
TypedTsns [] = Unit {0}
TypedTsns (c ∷ cs) = TypedTsn c × TypedTsns cs

refused_keeps : (o : Option ℕ) (r : Receiver) (s : Step) → Window r → (o ≡ none → Window s.next) → Window (refused_or o r s).next
unfolding refused_or
refused_keeps none r s v h = h refl
refused_keeps (some n) r s v h = v

window_chunk : (c : Chunk) (r : Receiver) → Window r → c.tsn < 2 ^ 32 → Window (receive_chunk c r).next
unfolding receive_chunk receive_new
window_chunk c r v h = go (value (repeats c r))
  where
    go : Value (repeats c r) → Window (receive_chunk c r).next
    go (yes_is e) = subst (λ (s : Step). Window s.next) (sym (ap (λ (b : Bool). if b then reply repeated r else receive_new c r) e)) v
    go (no_is e) = subst (λ (s : Step). Window s.next) (sym (ap (λ (b : Bool). if b then reply repeated r else receive_new c r) e))
        (refused_keeps (first_refusal (late_checks c r)) r (reply accepted (accept c r)) v (λ f. accept_window c r v h e (first_passes 22 (is_far c.tsn r.last_tsn) ((23 when no_room c r) ∷ []) f)))

window_receive : (store : ℕ) (o : Option Chunk) (r : Receiver) → Window r → TypedTsn (receive store o) → Window (Receive.receive store o r).next
unfolding Receive.receive
window_receive store none r v t = refused_keeps (first_refusal ((2 when not (eqb store r.store_length)) ∷ [])) r (reply (refused 19) r) v (λ f. v)
window_receive store (some c) r v t = refused_keeps (first_refusal (early_checks store c r)) r (receive_chunk c r) v (λ f. window_chunk c r v t)

window_from : (b : ℕ) (ready : List Assembled) (r : Receiver) → Window r → Window (fetch_from b ready r).next
unfolding fetch_from
window_from b [] r v = v
window_from b (a ∷ others) r v = refused_keeps (first_refusal ((10 when ltb b (length (as_message a).payload)) ∷ [])) r (reply (fetched (as_message a)) (with_ready others r)) v (λ f. record { ahead = v.ahead; gap = v.gap })

window_fetch : (store b : ℕ) (r : Receiver) → Window r → Window (Fetch.fetch store b r).next
unfolding Fetch.fetch
window_fetch store b r v = refused_keeps (first_refusal ((2 when not (eqb store r.store_length)) ∷ [])) r (fetch_from b r.ready r) v (λ f. window_from b r.ready r v)

window_after : (cs : List Call) (r : Receiver) → TypedTsns cs → Window r → Window (after cs r)
unfolding after step
window_after [] r t v = v
window_after (receive store o ∷ cs) r t v = window_after cs (Receive.receive store o r).next t.1 (window_receive store o r v t.0)
window_after (fetch store b ∷ cs) r t v = window_after cs (Fetch.fetch store b r).next t.1 (window_fetch store b r v)

new_window : (k : Kind) (store start : ℕ) → Window (new_receiver k store start)
unfolding new_receiver before
new_window k store start = record {
  ahead = record { last_fits = omega arith; fits = λ t l. absurd (none t l); after = λ t l. absurd (none t l); near = λ t l. absurd (none t l); once = λ t. let z = count_nil t in omega arith };
  gap = member_nil (wrap_suc 32 ((start + (2 ^ 32 - 1)) % 2 ^ 32));
}
  where
    none : (t : ℕ) → 0 < count t [] → ⊥
    none t l = let z = count_nil t in omega arith

pub always_window : (k : Kind) (store start : ℕ) (cs : List Call) → TypedTsns cs → Window (after cs (new_receiver k store start))
always_window k store start cs t = window_after cs (new_receiver k store start) t (new_window k store start)
