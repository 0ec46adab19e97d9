-- Closing's test passes where the amounts are the sums of the messages. Assumes nothing.
use Prim.Native.Nat.{ℕ, zero, suc, ◌-◌, ◌≤◌, ◌<◌}
use mathlib.Core.Path.{◌≡◌, refl, sym, ap, ◌∙◌}
use mathlib.Core.Bool.{true}
use mathlib.Core.List.{List, [], ◌∷◌}
use native.Mathlib.Omega.{arith}
use borrow.Author.Tests.{lt-ltb, le-ltb, eq-eqb, ne_eqb}
use lib.ListN.{length}
use Rattle.queue_words.specs.Header.{totals_at}
use Rattle.queue_words.specs.Items.{item_at}
use Rattle.queue_words.specs.declared.items.Item.{Item}
use Rattle.payload_store.specs.Words.{size_of, used_of}
use Rattle.message_chains.specs.Amounts.{rest}
use Rattle.queue_closing.specs.Walk.{may_go, walk_item, walk, walk_from, may_sweep}
use Rattle.queue_closing.specs.declared.close.Walk.{Walk}
use Rattle.queue_state.specs.Chains.{Linked, count, sum_of}
use Rattle.queue_state.specs.Model.{next_of}
use Rattle.queue_state.proofs.Chains.{count_head}
use Rattle.queue_state.proofs.Facts.{offset_is}
use Rattle.linked_dropping.proofs.Cleared.{rest_at, Ready}

-- The amounts suffice for the messages in these places.
pub record Enough (ws : List ℕ) (w : Walk) (ps : List ℕ) : Type 0 where
  pub in_total : sum_of (rest_at ws) ps ≤ w.total
  pub in_amount : sum_of (rest_at ws) ps ≤ w.amount
  pub in_waiting : length ps ≤ w.waiting
  pub in_used : sum_of (size_of ws) ps ≤ w.used

-- ---- one message

-- the walk past a message
abbrev past : Walk → Item → Walk
past w m = record {
  fits = w.fits;
  place = m.next;
  total = w.total - rest m;
  amount = w.amount - rest m;
  waiting = w.waiting - 1;
  used = w.used - m.length;
}

may_go_lem : (w : Walk) (m : Item) (n : ℕ) → m.offset ≡ 0 → 1 ≤ m.length → m.length ≤ w.used → n ≤ w.total → n ≤ w.amount → 1 ≤ w.waiting → may_go w m n ≡ true
unfolding may_go
may_go_lem w m n o l u t a k =
    rw (le-ltb 0 m.offset (omega arith), ne_eqb m.length 0 (λ z. omega arith), le-ltb w.used m.length u, le-ltb w.total n t, le-ltb w.amount n a) (lt-ltb 0 w.waiting k)

walk_past : (w : Walk) (m : Item) → may_go w m (rest m) ≡ true → walk_item w m ≡ past w m
unfolding walk_item
walk_past w m e = rw e

enough_goes : (ws : List ℕ) (w : Walk) (x : ℕ) (xs : List ℕ) → (item_at ws x).offset ≡ 0 → 1 ≤ size_of ws x → Enough ws w (x ∷ xs) → may_go w (item_at ws x) (rest_at ws x) ≡ true
enough_goes ws w x xs o l e = may_go_lem w (item_at ws x) (rest_at ws x) o l (omega (arith, e.in_used)) (omega (arith, e.in_total)) (omega (arith, e.in_amount)) (omega (arith, e.in_waiting))

enough_behind : (ws : List ℕ) (w : Walk) (x : ℕ) (xs : List ℕ) → Enough ws w (x ∷ xs) → Enough ws (past w (item_at ws x)) xs
enough_behind ws w x xs e = record {
  in_total = omega (arith, e.in_total);
  in_amount = omega (arith, e.in_amount);
  in_waiting = omega (arith, e.in_waiting);
  in_used = omega (arith, e.in_used);
}

-- ---- all of them

-- the walk has passed all messages and is at the end
abbrev Passes : Walk → Type 0
Passes w = (w.fits ≡ true) × (w.place ≡ 1024)

walk_stop : (ws : List ℕ) (w : Walk) (f : ℕ) → w.place ≡ 1024 → walk ws w f ≡ w
unfolding walk
walk_stop ws w zero e = refl
walk_stop ws w (suc f) e = rw (lt-ltb 1023 w.place (omega arith))

walk_turn : (ws : List ℕ) (w : Walk) (f x : ℕ) → w.place ≡ x → x < 1024 → walk ws w (suc f) ≡ walk ws (walk_item w (item_at ws x)) f
unfolding walk
walk_turn ws w f x e h = rw (le-ltb 1023 w.place (omega arith)) (ap (λ (y : ℕ). walk ws (walk_item w (item_at ws y)) f) e)

walk_all : (ws : List ℕ) (ps : List ℕ) (w : Walk) (f : ℕ) → Linked (next_of ws) w.place ps → ((y : ℕ) → 1 ≤ count y ps → 1 ≤ size_of ws y) → ((y : ℕ) → 1 ≤ count y ps → (item_at ws y).offset ≡ 0)
    → Enough ws w ps → w.fits ≡ true → length ps ≤ f → Passes (walk ws w f)
walk_all ws [] w f l v o e t h = rw (walk_stop ws w f l) (t, l)
walk_all ws (x ∷ xs) w zero l v o e t h = absurd (omega arith)
walk_all ws (x ∷ xs) w (suc f) l v o e t h =
    rw (walk_turn ws w f x l.0 l.1, walk_past w (item_at ws x) (enough_goes ws w x xs (o x (count_head x xs)) (v x (count_head x xs)) e))
    (walk_all ws xs (past w (item_at ws x)) f l.2 (λ y k. v y (omega arith)) (λ y k. o y (omega arith)) (enough_behind ws w x xs e) t (omega arith))

passes_may : (ws : List ℕ) (p a : ℕ) → Passes (walk ws (walk_from ws p a) 1024) → may_sweep ws p a ≡ true
unfolding may_sweep
passes_may ws p a r = rw (r.0, eq-eqb (walk ws (walk_from ws p a) 1024).place 1024 r.1)

-- THE THEOREM of the test.
pub may_sweep_lem : (ws st : List ℕ) (p a : ℕ) (ps : List ℕ) → Ready ws st p ps → length ps ≤ 1024
    → sum_of (rest_at ws) ps ≤ (totals_at ws).total → sum_of (rest_at ws) ps ≤ a → length ps ≤ (totals_at ws).waiting → sum_of (size_of ws) ps ≤ used_of ws → may_sweep ws p a ≡ true
may_sweep_lem ws st p a ps r h t b k u =
    passes_may ws p a
    (walk_all ws ps (walk_from ws p a) 1024 r.linked r.live (λ y m. sym (offset_is ws st y) ∙ r.fresh y m) (record { in_total = t; in_amount = b; in_waiting = k; in_used = u }) refl h)
