-- The loops along a chain of messages, over plain values: a callee's result is a variable, what it ensures a hypothesis. Assumes nothing.
use mathlib.Core.Path.{◌≡◌, sym, subst, ◌∙◌}
use mathlib.Core.List.{List}
use Prim.Native.Nat.{ℕ, suc, ◌+◌, ◌-◌, ◌≤◌, ◌<◌}
use native.Mathlib.Omega.{arith}
use borrow.Author.Tests.{lt-ltb, le-ltb}
use Rattle.queue_words.specs.Items.{item_at}
use Rattle.queue_words.specs.declared.items.Item.{Item}
use Rattle.payload_store.specs.Dropping.{drop_code_words}
use Rattle.queue_closing.specs.Walk.{walk_item, walk}
use Rattle.queue_closing.specs.Sweep.{Swept, swept, sweep_item_words, sweep, Goes}
use Rattle.queue_closing.specs.declared.close.Sweep.{Sweep}
use Rattle.queue_closing.specs.declared.close.Walk.{Walk}

-- The test: what it finds from the start on is what it finds from here on.
module _ (ws : List ℕ) (start : Walk) (n : ℕ) where
  module _ (i : ℕ) (w : Walk) (inv : walk ws start n ≡ walk ws w (n - i)) where
    pub walk_out : i < n → 1023 < w.place → w ≡ walk ws start n
    unfolding walk
    walk_out h g =
        let s : n - i ≡ suc (n - (i + 1)) = omega arith in
        sym (inv ∙ rw (s, lt-ltb _ _ g))

    pub walk_next : (m : Item) (r : Walk) → i < n → w.place ≤ 1023 → m ≡ item_at ws w.place → r ≡ walk_item w m → walk ws start n ≡ walk ws r (n - (i + 1))
    unfolding walk
    walk_next m r h g em er =
        let s : n - i ≡ suc (n - (i + 1)) = omega arith in
        inv ∙ rw (s, le-ltb _ _ g, ← em, ← er)

    pub walk_end : n ≤ i → w ≡ walk ws start n
    unfolding walk
    walk_end g =
        let s : n - i ≡ 0 = omega arith in
        sym (inv ∙ rw s)

-- The dropping: what it leaves from the start on is what it leaves from here on.
module _ (id threshold : ℕ) (start : Swept) (n : ℕ) where
  module _ (i : ℕ) (w : Sweep) (us fs : List ℕ) (inv : sweep id threshold start n ≡ sweep id threshold (swept w us fs) (n - i)) where
    pub sweep_out : i < n → 1023 < w.place → swept w us fs ≡ sweep id threshold start n
    unfolding sweep
    sweep_out h g =
        let s : n - i ≡ suc (n - (i + 1)) = omega arith in
        sym (inv ∙ rw (s, lt-ltb _ _ g))

    pub sweep_next : (r : Sweep) (vs gs : List ℕ) → i < n → w.place ≤ 1023 → swept r vs gs ≡ sweep_item_words us fs id threshold w.place w
        → sweep id threshold start n ≡ sweep id threshold (swept r vs gs) (n - (i + 1))
    unfolding sweep
    sweep_next r vs gs h g e =
        let s : n - i ≡ suc (n - (i + 1)) = omega arith in
        inv ∙ rw (s, le-ltb _ _ g, ← e)

    pub sweep_end : n ≤ i → swept w us fs ≡ sweep id threshold start n
    unfolding sweep
    sweep_end g =
        let s : n - i ≡ 0 = omega arith in
        sym (inv ∙ rw s)

-- The messages may go: from here on as from the start.
module _ (us : List ℕ) (place n i : ℕ) (g : Goes us place (n - i)) (h : i < n) (l : place ≤ 1023) where
  here : Goes us place (suc (n - (i + 1)))
  here = let s : n - i ≡ suc (n - (i + 1)) = omega arith in subst (Goes us place) s g

  pub goes_here : drop_code_words us place ≡ 0
  unfolding Goes
  goes_here = (here (omega arith)).0

  pub goes_next : (fs : List ℕ) (id threshold : ℕ) (w r : Sweep) (vs gs : List ℕ) → swept r vs gs ≡ sweep_item_words us fs id threshold place w → Goes vs r.place (n - (i + 1))
  unfolding Goes sweep_item_words
  goes_next fs id threshold w r vs gs e =
      subst (λ (x : Swept). Goes x.next x.at.place (n - (i + 1))) (sym e) (here (omega arith)).1
