-- A message's row that has no payload yet leaves the test of its payload as it was: of the rows that the test has read it is the one that is free. On any
-- words. Assumes nothing.
use mathlib.Core.Path.{◌≡◌, refl, sym, ap, ◌∙◌, subst}
use mathlib.Core.Bool.{Bool, true, false}
use mathlib.Core.List.{List}
use Prim.Native.Nat.{ℕ, zero, suc, ◌-◌, ◌≤◌}
use native.Mathlib.Omega.{arith}
use borrow.Author.Tests.{le-ltb}
use lib.Dec.{ltb, leb, eqb}
use lib.ListN.{length}
use Rattle.queue_words.specs.Flags.{pick}
use Rattle.queue_words.specs.Items.{item_at, put_item, FitsItem}
use Rattle.queue_words.specs.declared.header.Totals.{Totals}
use Rattle.queue_words.specs.declared.items.Item.{Item}
use Rattle.queue_words.proofs.Laws
use Rattle.payload_store.specs.Words.{place_of, size_of, used_of, gaps_of}
use Rattle.payload_store.specs.Gaps.{room, gap_for, gaps_wrong}
use Rattle.payload_store.specs.Putting.{tally, row_fits_words, fits_to, all_fit, put_code}
use Rattle.payload_store.proofs.Cases.{by_index, pick_both, false_true}
use Rattle.payload_store.proofs.Tests.{PutOk, put_may}

-- `put_code` by its tests, the last of them b
abbrev code : Bool → Bool → Bool → Bool → Bool → Bool → Bool → ℕ
code c1 c2 c3 c4 c5 c6 b = pick c1 16 (pick c2 16 (pick c3 16 (pick c4 8 (pick c5 16 (pick c6 0 (pick b 1 16))))))

code_grows : (c1 c2 c3 c4 c5 c6 b b' : Bool) → (b ≡ true → b' ≡ true) → code c1 c2 c3 c4 c5 c6 b ≤ 1 → code c1 c2 c3 c4 c5 c6 b' ≤ 1
code_grows true c2 c3 c4 c5 c6 b b' f h = absurd (omega arith)
code_grows false true c3 c4 c5 c6 b b' f h = absurd (omega arith)
code_grows false false true c4 c5 c6 b b' f h = absurd (omega arith)
code_grows false false false true c5 c6 b b' f h = absurd (omega arith)
code_grows false false false false true c6 b b' f h = absurd (omega arith)
code_grows false false false false false true b b' f h = omega arith
code_grows false false false false false false true b' f h = subst (λ (x : Bool). pick x 1 16 ≤ 1) (sym (f refl)) (omega arith)
code_grows false false false false false false false b' f h = absurd (omega arith)

-- What a row of n bytes leaves of two tallies with as much left, by the four tests: as much again, and the first is as good as the second; also where
-- only the second fails the third test, of a row without bytes.
kept_still : (a b c d : Bool) (n k l : ℕ) (x y : Bool) → k ≡ l → (y ≡ true → x ≡ true)
    → ((pick a (tally x k) (pick b (tally false l) (pick c (tally false l) (pick d (tally false l) (tally x (l - n)))))).left ≡ (pick a (tally y l) (pick b (tally false l) (pick c (tally false l) (pick d (tally false l) (tally y (l - n)))))).left)
    × ((pick a (tally y l) (pick b (tally false l) (pick c (tally false l) (pick d (tally false l) (tally y (l - n)))))).ok ≡ true → (pick a (tally x k) (pick b (tally false l) (pick c (tally false l) (pick d (tally false l) (tally x (l - n)))))).ok ≡ true)
kept_still true b c d n k l x y e h = (e, h)
kept_still false true c d n k l x y e h = (refl, λ z. z)
kept_still false false true d n k l x y e h = (refl, λ z. z)
kept_still false false false true n k l x y e h = (refl, λ z. z)
kept_still false false false false n k l x y e h = (refl, h)

own_still : (a c : Bool) (k l : ℕ) (x y : Bool) → k ≡ l → (y ≡ true → x ≡ true)
    → ((pick a (tally x k) (tally x (l - 0))).left ≡ (pick a (tally y l) (pick c (tally false l) (tally y (l - 0)))).left)
    × ((pick a (tally y l) (pick c (tally false l) (tally y (l - 0)))).ok ≡ true → (pick a (tally x k) (tally x (l - 0))).ok ≡ true)
own_still true c k l x y e h = (e, h)
own_still false true k l x y e h = (omega arith, λ z. false_true z)
own_still false false k l x y e h = (refl, h)

module _ (ws : List ℕ) (long : length ws ≡ 20768) (p : ℕ) (m : Item) (fits : FitsItem m) (no_place : m.place ≡ 0) (no_length : m.length ≡ 0) (len n : ℕ)
    (c : put_code ws len p n ≤ 1) where
  abbrev us : List ℕ
  us = put_item ws p m

  may : PutOk ws len p n
  may = put_may ws len p n c

  dead : size_of ws p ≡ 0
  dead = may.dead

  own : item_at us p ≡ m
  own = Laws.item_at_put ws p m long may.row fits

  other : (x : ℕ) → (p ≡ x → ⊥) → item_at us x ≡ item_at ws x
  other x ne = Laws.item_at_put_other ws p m x ne

  own_size : size_of us p ≡ 0
  own_size = ap (λ (k : Item). k.length) own ∙ no_length

  sizes : (x : ℕ) → size_of us x ≡ size_of ws x
  sizes x = by_index p x
      (λ e. subst (λ (y : ℕ). size_of us y ≡ size_of ws y) e (own_size ∙ sym dead))
      (λ ne. ap (λ (k : Item). k.length) (other x ne))

  used_is : used_of us ≡ used_of ws
  used_is = ap (λ (t : Totals). t.used) (Laws.totals_put_item ws p m)

  gaps_is : gaps_of us ≡ gaps_of ws
  gaps_is = ap (λ (t : Totals). t.gaps) (Laws.totals_put_item ws p m)

  -- the new message's row points to the store's start, every other row to where it did
  places : (x : ℕ) → (p ≡ x → ⊥) → place_of us x ≡ place_of ws x
  places x ne = ap (λ (k : Item). k.place) (other x ne)

  own_place : place_of us p ≡ 0
  own_place = ap (λ (k : Item). k.place) own ∙ no_place

  fits_still : (used k : ℕ) → ((fits_to us len used k).left ≡ (fits_to ws len used k).left) × ((fits_to ws len used k).ok ≡ true → (fits_to us len used k).ok ≡ true)
  unfolding fits_to row_fits_words
  fits_still used zero = (refl, λ h. refl)
  fits_still used (suc k) =
      let q = fits_still used k in
      by_index p k
      (λ e. rw (q.0, sizes k, subst (λ (y : ℕ). size_of ws y ≡ 0) e dead, subst (λ (y : ℕ). place_of us y ≡ 0) e own_place, le-ltb len 0 (omega arith), le-ltb (len - 0) 0 (omega arith), le-ltb (fits_to ws len used k).left 0 (omega arith))
      (own_still (eqb (fits_to ws len used k).left 0) (ltb (len - 0) (place_of ws k)) (fits_to ws len used k).left (fits_to ws len used k).left (fits_to us len used k).ok (fits_to ws len used k).ok refl q.1))
      (λ ne. rw (q.0, sizes k, places k ne)
      (kept_still (eqb (fits_to ws len used k).left 0) (ltb len (size_of ws k)) (ltb (len - size_of ws k) (place_of ws k)) (ltb (fits_to ws len used k).left (size_of ws k)) (size_of ws k) (fits_to ws len used k).left (fits_to ws len used k).left (fits_to us len used k).ok (fits_to ws len used k).ok refl q.1))

  fit_still : all_fit ws len (used_of ws) ≡ true → all_fit us len (used_of ws) ≡ true
  unfolding all_fit
  fit_still e =
      let q = fits_still (used_of ws) 1024 in
      let b = pick_both (fits_to ws len (used_of ws) 1024).ok (eqb (fits_to ws len (used_of ws) 1024).left 0) e in
      rw (q.1 b.0, q.0) b.1

  pub put_still : put_code us len p n ≤ 1
  unfolding put_code
  put_still =
      rw (sizes p, used_is, gaps_is)
      (code_grows (leb 1024 p) (ltb 0 (size_of ws p)) (ltb len (used_of ws)) (ltb (len - used_of ws) n) (gaps_wrong (gaps_of ws) len) (leb n (room (gap_for (gaps_of ws) n))) (all_fit ws len (used_of ws)) (all_fit us len (used_of ws)) fit_still c)
