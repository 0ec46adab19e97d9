-- What a search for a neighbour answers, over plain values. Assumes nothing.
use mathlib.Core.Path.{◌≡◌, sym, ap, ap₂, ◌∙◌}
use mathlib.Core.Bool.{Bool, true, false}
use mathlib.Core.List.{List}
use Prim.Native.Nat.{ℕ, ◌<◌}
use borrow.Author.Tests.{lt-leb, ne_eqb}
use Rattle.queue_words.specs.Flags.{bit}
use Rattle.receiver_words.specs.Tables.{Links, word_at}
use Rattle.receiver_words.specs.Fragments.{fragment_at}
use Rattle.receiver_words.specs.Index.{find_row}
use Rattle.receiver_words.specs.declared.fragments.Fragment.{Fragment}
use Rattle.receiver_messages.specs.Keys.{following, preceding}
use Rattle.receiver_messages.specs.Walks.{goes_on_words, row_after, row_before_words}

-- the row found under the key that a function makes of row i's fragment
found : (key_of : Fragment → Fragment) (ws : List ℕ) (b : Bool) (i k j : ℕ) (f key : Fragment) → f ≡ fragment_at ws i → key ≡ key_of f → k ≡ bit b → j ≡ find_row ws k key
    → j ≡ find_row ws (bit b) (key_of (fragment_at ws i))
found key_of ws b i k j f key ef ek kk ej = ej ∙ ap₂ (find_row ws) kk (ek ∙ ap key_of ef)

module _ (ws : List ℕ) (b : Bool) (i k j w : ℕ) (f key g : Fragment) (on : Bool) (ef : f ≡ fragment_at ws i) (kk : k ≡ bit b) (ej : j ≡ find_row ws k key) (l : j < 4096) (ew : w ≡ word_at Links ws j 2) (nw : w ≡ 1 → ⊥) (eg : g ≡ fragment_at ws j) where
  pub after_on : key ≡ following f → on ≡ goes_on_words b f g → on ≡ true → j ≡ row_after ws b i
  unfolding row_after
  after_on ek eo t =
      let q : goes_on_words b (fragment_at ws i) (fragment_at ws j) ≡ true = ap₂ (goes_on_words b) (sym ef) (sym eg) ∙ sym eo ∙ t in
      rw (← (found following ws b i k j f key ef ek kk ej), lt-leb _ _ l, ← ew, ne_eqb _ _ nw, q)

  pub after_off : key ≡ following f → on ≡ goes_on_words b f g → on ≡ false → 4096 ≡ row_after ws b i
  unfolding row_after
  after_off ek eo t =
      let q : goes_on_words b (fragment_at ws i) (fragment_at ws j) ≡ false = ap₂ (goes_on_words b) (sym ef) (sym eg) ∙ sym eo ∙ t in
      rw (← (found following ws b i k j f key ef ek kk ej), lt-leb _ _ l, ← ew, ne_eqb _ _ nw, q)

  pub before_last : key ≡ preceding f → g.last ≡ true → 4096 ≡ row_before_words ws b i
  unfolding row_before_words
  before_last ek t =
      let p : (fragment_at ws j).last ≡ true = ap (λ (x : Fragment). x.last) (sym eg) ∙ t in
      rw (← (found preceding ws b i k j f key ef ek kk ej), lt-leb _ _ l, ← ew, ne_eqb _ _ nw, p)

  pub before_on : key ≡ preceding f → g.last ≡ false → on ≡ goes_on_words b g f → on ≡ true → j ≡ row_before_words ws b i
  unfolding row_before_words
  before_on ek n eo t =
      let p : (fragment_at ws j).last ≡ false = ap (λ (x : Fragment). x.last) (sym eg) ∙ n in
      let q : goes_on_words b (fragment_at ws j) (fragment_at ws i) ≡ true = ap₂ (goes_on_words b) (sym eg) (sym ef) ∙ sym eo ∙ t in
      rw (← (found preceding ws b i k j f key ef ek kk ej), lt-leb _ _ l, ← ew, ne_eqb _ _ nw, q, p)

  pub before_off : key ≡ preceding f → g.last ≡ false → on ≡ goes_on_words b g f → on ≡ false → 4096 ≡ row_before_words ws b i
  unfolding row_before_words
  before_off ek n eo t =
      let p : (fragment_at ws j).last ≡ false = ap (λ (x : Fragment). x.last) (sym eg) ∙ n in
      let q : goes_on_words b (fragment_at ws j) (fragment_at ws i) ≡ false = ap₂ (goes_on_words b) (sym eg) (sym ef) ∙ sym eo ∙ t in
      rw (← (found preceding ws b i k j f key ef ek kk ej), lt-leb _ _ l, ← ew, ne_eqb _ _ nw, q, p)
