-- The known streams: what is next in a stream, set in its row, is the model's `set_next`. Assumes nothing.
use mathlib.Core.Path.{◌≡◌, refl, sym, ap, ap₂, ◌∙◌}
use mathlib.Core.Bool.{true, false}
use mathlib.Core.List.{List, [], ◌∷◌}
use Prim.Native.Nat.{ℕ, zero, suc, ◌+◌, ◌≤◌, ◌<◌}
use native.Mathlib.Omega.{arith}
use lib.Dec.{eqb}
use lib.ListN.{length}
use Rattle.receiver_model.specs.Types as model
use Rattle.receiver_model.specs.Receive.{set_next}
use Rattle.receiver_model.proofs.Lists.{Value, yes_is, no_is, value}
use Rattle.receiver_words.specs.Tables.{Turns}
use Rattle.receiver_words.specs.Turns.{turn_of, turn_words, turn_at, put_turn}
use Rattle.receiver_words.specs.Search.{turn_from}
use Rattle.receiver_words.specs.Link.{turn_rows}
use Rattle.receiver_words.specs.declared.turns.Turn.{Turn}
use Rattle.receiver_words.proofs.Laws.{row_put_other_row}
use Rattle.receiver_words.proofs.Records.{turn_at_put}

-- a row as the model's known stream
abbrev as_turn : Turn → model.Turn
as_turn t = record { id = t.id.0; next = t.next }

module _ (ws : List ℕ) (long : length ws ≡ 83472) (s x : ℕ) (id_fits : s < 65536) (next_fits : x < 4294967296) where
  abbrev pub set_turn : Turn
  set_turn = record { id = record { 0 = s }; next = x }

  abbrev pub put : ℕ → List ℕ
  put t = put_turn ws t set_turn

  here : (t : ℕ) → t < 256 → turn_at (put t) t ≡ set_turn
  here t h = turn_at_put ws t set_turn long h (record { id_fits = id_fits; next_fits = next_fits })

  elsewhere : (t i : ℕ) → (t ≡ i → ⊥) → turn_at (put t) i ≡ turn_at ws i
  elsewhere t i ne = ap turn_of (row_put_other_row Turns ws t (turn_words set_turn) i ne (omega arith))

  above : (t n i : ℕ) → t < i → turn_rows (put t) i n ≡ turn_rows ws i n
  unfolding turn_rows
  above t zero i h = refl
  above t (suc n) i h = ap₂ ◌∷◌ (ap as_turn (elsewhere t i (λ e. omega arith))) (above t n (i + 1) (omega arith))

  from_least : (n i : ℕ) → i ≤ turn_from ws s i n
  unfolding turn_from
  from_least zero i = omega arith
  from_least (suc n) i = go (value (eqb (turn_at ws i).id.0 s)) (from_least n (i + 1))
    where
      go : Value (eqb (turn_at ws i).id.0 s) → i + 1 ≤ turn_from ws s (i + 1) n → i ≤ turn_from ws s i (suc n)
      go (yes_is e) ih = let r : turn_from ws s i (suc n) ≡ i = rw e in omega arith
      go (no_is e) ih = let r : turn_from ws s i (suc n) ≡ turn_from ws s (i + 1) n = rw e in omega arith

  -- where the row of the stream is i, and where it is a later one
  from_here : (n i : ℕ) → eqb (turn_at ws i).id.0 s ≡ true → turn_from ws s i (suc n) ≡ i
  unfolding turn_from
  from_here n i e = rw e

  from_later : (n i : ℕ) → eqb (turn_at ws i).id.0 s ≡ false → turn_from ws s i (suc n) ≡ turn_from ws s (i + 1) n
  unfolding turn_from
  from_later n i e = rw e

  set_here : (t : model.Turn) (ts : List model.Turn) → eqb t.id s ≡ true → set_next s x (t ∷ ts) ≡ record { id = s; next = x } ∷ ts
  unfolding set_next
  set_here t ts e = rw e

  set_later : (t : model.Turn) (ts : List model.Turn) → eqb t.id s ≡ false → set_next s x (t ∷ ts) ≡ t ∷ set_next s x ts
  unfolding set_next
  set_later t ts e = rw e

  rows_more : (vs : List ℕ) (i n : ℕ) → turn_rows vs i (suc n) ≡ as_turn (turn_at vs i) ∷ turn_rows vs (i + 1) n
  unfolding turn_rows
  rows_more vs i n = refl

  -- a known stream
  pub set_known : (n i : ℕ) → i + n ≤ 256 → turn_from ws s i n < i + n → turn_rows (put (turn_from ws s i n)) i n ≡ set_next s x (turn_rows ws i n)
  unfolding turn_from
  set_known zero i h k = absurd (omega arith)
  set_known (suc n) i h k = go (value (eqb (turn_at ws i).id.0 s)) (λ j. set_known n (i + 1) (omega arith) j)
    where
      go : Value (eqb (turn_at ws i).id.0 s) → (turn_from ws s (i + 1) n < i + 1 + n → turn_rows (put (turn_from ws s (i + 1) n)) (i + 1) n ≡ set_next s x (turn_rows ws (i + 1) n))
          → turn_rows (put (turn_from ws s i (suc n))) i (suc n) ≡ set_next s x (turn_rows ws i (suc n))
      go (yes_is e) ih =
          ap (λ (t : ℕ). turn_rows (put t) i (suc n)) (from_here n i e)
          ∙ rows_more (put i) i n
          ∙ ap₂ ◌∷◌ (ap as_turn (here i (omega arith))) (above i n (i + 1) (omega arith))
          ∙ sym (set_here (as_turn (turn_at ws i)) (turn_rows ws (i + 1) n) e)
          ∙ ap (set_next s x) (sym (rows_more ws i n))
      go (no_is e) ih =
          let l = from_least n (i + 1) in
          let r = from_later n i e in
          ap (λ (t : ℕ). turn_rows (put t) i (suc n)) r
          ∙ rows_more (put (turn_from ws s (i + 1) n)) i n
          ∙ ap₂ ◌∷◌ (ap as_turn (elsewhere (turn_from ws s (i + 1) n) i (λ q. omega arith))) (ih (omega arith))
          ∙ sym (set_later (as_turn (turn_at ws i)) (turn_rows ws (i + 1) n) e)
          ∙ ap (set_next s x) (sym (rows_more ws i n))

  nothing : (i : ℕ) → turn_rows (put (i + 0)) (i + 1) 0 ≡ []
  unfolding turn_rows
  nothing i = refl

  set_nil : set_next s x [] ≡ record { id = s; next = x } ∷ []
  unfolding set_next
  set_nil = refl

  rows_nil : (i : ℕ) → turn_rows ws i 0 ≡ []
  unfolding turn_rows
  rows_nil i = refl

  -- a new one, at the end
  pub set_new : (n i : ℕ) → i + n < 256 → turn_from ws s i n ≡ i + n → turn_rows (put (i + n)) i (suc n) ≡ set_next s x (turn_rows ws i n)
  set_new n i h k = new n i h k
    where
      new : (n i : ℕ) → i + n < 256 → turn_from ws s i n ≡ i + n → turn_rows (put (i + n)) i (suc n) ≡ set_next s x (turn_rows ws i n)
      new zero i h k =
          let z : i + 0 ≡ i = omega arith in
          rows_more (put (i + 0)) i 0
          ∙ ap₂ ◌∷◌ (ap (λ (t : ℕ). as_turn (turn_at (put t) i)) z ∙ ap as_turn (here i (omega arith))) (nothing i)
          ∙ sym set_nil
          ∙ ap (set_next s x) (sym (rows_nil i))
      new (suc n) i h k = go (value (eqb (turn_at ws i).id.0 s)) (λ j. new n (i + 1) (omega arith) j)
        where
          end : i + 1 + n ≡ i + suc n
          end = omega arith

          go : Value (eqb (turn_at ws i).id.0 s) → (turn_from ws s (i + 1) n ≡ i + 1 + n → turn_rows (put (i + 1 + n)) (i + 1) (suc n) ≡ set_next s x (turn_rows ws (i + 1) n))
              → turn_rows (put (i + suc n)) i (suc (suc n)) ≡ set_next s x (turn_rows ws i (suc n))
          go (yes_is e) ih = let r = from_here n i e in absurd (omega arith)
          go (no_is e) ih =
              rows_more (put (i + suc n)) i (suc n)
              ∙ ap₂ ◌∷◌ (ap as_turn (elsewhere (i + suc n) i (λ q. omega arith))) (ap (λ (t : ℕ). turn_rows (put t) (i + 1) (suc n)) (sym end) ∙ ih (sym (from_later n i e) ∙ k ∙ sym end))
              ∙ sym (set_later (as_turn (turn_at ws i)) (turn_rows ws (i + 1) n) e)
              ∙ ap (set_next s x) (sym (rows_more ws i n))
