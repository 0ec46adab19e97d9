-- Where the test of a chain says that all its messages may go, each may when the dropping comes to it, on any words. The chain that the test followed
-- ends, so it comes to no place twice; a message that is gone leaves the others as they were, and the bytes in use as the test reckoned them. Assumes nothing.
use mathlib.Core.Path.{◌≡◌, refl, sym, ap, subst, ◌∙◌}
use mathlib.Core.Bool.{Bool, true, false}
use mathlib.Core.List.{List}
use Prim.Native.Nat.{ℕ, zero, suc, ◌-◌, ◌≤◌, ◌<◌}
use native.Mathlib.Omega.{arith}
use borrow.Author.Tests.{le-ltb, ltb-false, eqb-true, eqb-false}
use lib.Dec.{ltb, eqb}
use Rattle.queue_model.proofs.Tests.{holds}
use Rattle.queue_words.specs.Flags.{pick}
use Rattle.queue_words.specs.Items.{item_at}
use Rattle.queue_words.specs.declared.header.Totals.{Totals}
use Rattle.queue_words.specs.declared.items.Item.{Item}
use Rattle.queue_words.proofs.Finds.{by_lt}
use Rattle.payload_store.specs.Words.{used_of, size_of}
use Rattle.payload_store.specs.Dropping.{drop_code_words}
use Rattle.payload_store.proofs.Cases.{pick_else}
use Rattle.stream_scheduler.specs.Link.{Untouched}
use Rattle.message_chains.specs.Amounts.{rest}
use Rattle.message_chains.specs.Heads.{released}
use Rattle.message_chains.proofs.Goes.{drop_zero, released_other, released_used}
use Rattle.queue_closing.specs.Walk.{walk_failed, may_go, walk_item, walk, walk_from, may_sweep}
use Rattle.queue_closing.specs.Sweep.{Goes}
use Rattle.queue_closing.specs.declared.close.Walk.{Walk}

-- ---- a chain that ends

-- from a place on it ends after so many messages
abbrev Ends : List ℕ → ℕ → ℕ → Type 0
Ends ws p zero = 1023 < p
Ends ws p (suc k) = (p < 1024) × Ends ws (item_at ws p).next k

ends_same : (ws : List ℕ) (p k j : ℕ) → Ends ws p k → Ends ws p j → k ≡ j
ends_same ws p zero zero a b = refl
ends_same ws p zero (suc j) a b = absurd (omega (arith, a, b.0))
ends_same ws p (suc k) zero a b = absurd (omega (arith, a.0, b))
ends_same ws p (suc k) (suc j) a b = ap suc (ends_same ws (item_at ws p).next k j a.1 b.1)

record Runs (ws : List ℕ) (p : ℕ) : Type 0 where
  steps : ℕ
  ends : Ends ws p steps

-- ---- a step of the test

-- what is left of the test's numbers when a message goes
abbrev gone : Walk → Item → Walk
gone w m = record {
  fits = w.fits;
  place = m.next;
  total = w.total - rest m;
  amount = w.amount - rest m;
  waiting = w.waiting - 1;
  used = w.used - m.length;
}

failed_stays : (ws : List ℕ) (w : Walk) (f : ℕ) → (walk ws (walk_failed w) f).fits ≡ false
unfolding walk
failed_stays ws w zero = refl
failed_stays ws w (suc f) = refl

record Passed (w : Walk) (m : Item) : Type 0 where
  live : m.length ≡ 0 → ⊥
  in_used : m.length ≤ w.used

passed : (w : Walk) (m : Item) (n : ℕ) → may_go w m n ≡ true → Passed w m
unfolding may_go
passed w m n e =
    let t1 = pick_else (ltb 0 m.offset) false _ true (holds false) e in
    let t2 = pick_else (eqb m.length 0) false _ true (holds false) t1.1 in
    let t3 = pick_else (ltb w.used m.length) false _ true (holds false) t2.1 in
    record { live = eqb-false m.length 0 t2.0; in_used = ltb-false w.used m.length t3.0 }

module _ (ws : List ℕ) (w : Walk) (f : ℕ) (h : w.place < 1024) (ok : (walk ws w (suc f)).fits ≡ true) where
  abbrev m : Item
  m = item_at ws w.place

  turned : walk ws w (suc f) ≡ walk ws (walk_item w m) f
  unfolding walk
  turned = rw (le-ltb 1023 w.place (omega arith))

  on : (b : Bool) → (walk ws (pick b (gone w m) (walk_failed w)) f).fits ≡ true → b ≡ true
  on true e = refl
  on false e = absurd (holds false (sym (failed_stays ws w f) ∙ e))

  may : may_go w m (rest m) ≡ true
  unfolding walk_item
  may = on (may_go w m (rest m)) (ap (λ (x : Walk). x.fits) (sym turned) ∙ ok)

  goes_on : walk ws w (suc f) ≡ walk ws (gone w m) f
  unfolding walk_item
  goes_on = turned ∙ ap (λ (b : Bool). walk ws (pick b (gone w m) (walk_failed w)) f) may

runs : (ws : List ℕ) (f : ℕ) (w : Walk) → (walk ws w f).fits ≡ true → (walk ws w f).place ≡ 1024 → Runs ws w.place
unfolding walk
runs ws zero w ok e = record { steps = 0; ends = omega arith }
runs ws (suc f) w ok e = by_lt w.place 1024
    (λ h. let t = goes_on ws w f h ok in
    let r = runs ws f (gone w (item_at ws w.place)) (ap (λ (x : Walk). x.fits) (sym t) ∙ ok) (ap (λ (x : Walk). x.place) (sym t) ∙ e) in
    record { steps = suc r.steps; ends = (h, r.ends) })
    (λ h. record { steps = 0; ends = omega arith })

-- ---- a step of the dropping

-- the messages that are yet to come are as the test read them
abbrev Agree : List ℕ → List ℕ → ℕ → Type 0
Agree ws us k = (x j : ℕ) → j ≤ k → Ends ws x j → x < 1024 → item_at us x ≡ item_at ws x

-- so many steps of the dropping go from here, where the test is at w
abbrev Going : List ℕ → ℕ → Type 0
Going ws f = (w : Walk) (us : List ℕ) (k : ℕ) → Ends ws w.place k → Agree ws us k → used_of us ≡ w.used → (walk ws w f).fits ≡ true → Goes us w.place f

module _ (ws us : List ℕ) (w : Walk) (k f : ℕ) (e : Ends ws w.place (suc k)) (a : Agree ws us (suc k)) (u : used_of us ≡ w.used)
    (ok : (walk ws w (suc f)).fits ≡ true) (h : w.place < 1024) where
  abbrev p : ℕ
  p = w.place

  abbrev vs : List ℕ
  vs = released us w.place (rest (item_at us w.place))

  same : item_at us p ≡ item_at ws p
  same = a p (suc k) (omega arith) e h

  size : size_of us p ≡ size_of ws p
  size = ap (λ (x : Item). x.length) same

  fine : Passed w (item_at ws p)
  fine = passed w (item_at ws p) (rest (item_at ws p)) (may ws w f h ok)

  code : drop_code_words us p ≡ 0
  code = drop_zero us p h (λ z. fine.live (sym size ∙ z)) (omega (arith, fine.in_used, size, u))

  apart : (x j : ℕ) → j ≤ k → Ends ws x j → p ≡ x → ⊥
  apart x j l ex q = omega (arith, l, ends_same ws p (suc k) j e (subst (λ (y : ℕ). Ends ws y j) (sym q) ex))

  agree : Agree ws vs k
  agree x j l ex hx = released_other us p code (rest (item_at us p)) x (apart x j l ex) ∙ a x j (omega arith) ex hx

  used : used_of vs ≡ w.used - (item_at ws p).length
  used = omega (arith, released_used us p code (rest (item_at us p)), size, u)

  step : Going ws f → (drop_code_words us p ≡ 0) × Goes vs (item_at us p).next f
  step go = (
    code,
    subst (λ (x : Item). Goes vs x.next f) (sym same)
        (go (gone w (item_at ws p)) vs k e.1 agree used (ap (λ (x : Walk). x.fits) (sym (goes_on ws w f h ok)) ∙ ok)),
  )

going : (ws : List ℕ) (f : ℕ) → Going ws f
unfolding Goes
going ws zero w us k e a u ok = tt
going ws (suc f) w us zero e a u ok = λ h. absurd (omega arith)
going ws (suc f) w us (suc k) e a u ok = λ h. step ws us w k f e a u ok h (going ws f)

-- ---- THE THEOREM

both : (b c : Bool) → pick b c false ≡ true → (b ≡ true) × (c ≡ true)
both true c e = (refl, e)
both false c e = absurd (holds false e)

-- The words may have been changed by the scheduler since the test.
pub sweep_goes : (ws us : List ℕ) (place amount : ℕ) → Untouched ws us → may_sweep ws place amount ≡ true → Goes us place 1024
unfolding may_sweep
sweep_goes ws us place amount u e =
    let o = walk ws (walk_from ws place amount) 1024 in
    let t = both o.fits (eqb o.place 1024) e in
    let r = runs ws 1024 (walk_from ws place amount) t.0 (eqb-true o.place 1024 t.1) in
    going ws 1024 (walk_from ws place amount) us r.steps r.ends (λ x j le ex hx. u.same_items x hx) (ap (λ (x : Totals). x.used) u.same_totals) t.0
