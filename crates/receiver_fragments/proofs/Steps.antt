-- One turn of each loop, over plain values. Assumes nothing.
use mathlib.Core.Path.{◌≡◌, refl, sym, ap, ◌∙◌}
use mathlib.Core.Bool.{Bool, true, false}
use mathlib.Core.List.{List}
use Prim.Native.Nat.{ℕ, suc, ◌+◌, ◌-◌, ◌≤◌, ◌<◌}
use native.Mathlib.Omega.{arith}
use borrow.Author.Tests.{le-leb, lt-leb, lt-ltb, le-ltb, eqb-true}
use lib.Dec.{eqb}
use lib.ListN.{length, drop, length-drop}
use lib.Seq.{length-take-le}
use Rattle.queue_words.specs.Flags.{pick}
use Rattle.payload_store.specs.Putting.{written}
use Rattle.payload_store.proofs.Puts.{written_length}
use Rattle.receiver_words.specs.Fragments.{fragment_at}
use Rattle.receiver_words.specs.declared.fragments.Fragment.{Fragment}
use Rattle.receiver_store.specs.Words.{place_of, size_of, payload_of}
use Rattle.receiver_store.specs.Packing.{misplaced}
use Rattle.receiver_store.specs.Reading.{read_code, read_payload}
use Rattle.receiver_store.proofs.Exits.{read_ok}
use Rattle.receiver_messages.specs.Walks.{part_after}
use Rattle.receiver_fragments.specs.declared.freeing.Measure.{Measure}
use Rattle.receiver_fragments.specs.Freeing.{measure, measured, free_row, HandedOut, handed_out_words, hand_out}
use Rattle.receiver_messages.proofs.Steps.{none_left}

turn : (n : ℕ) → n < 4096 → 4096 - n ≡ suc (4096 - (n + 1))
turn n h = omega arith

-- ------------------------------------------------------------------ measure: r is what the whole message measures

module _ (ws : List ℕ) (b : Bool) (i len left n place size : ℕ) (out : Bool) (r : Measure) (h : n < 4096) (ep : place ≡ place_of ws i) (es : size ≡ size_of ws i) (eo : out ≡ misplaced 0 len place size) (inv : measured (4096 - n) ws b i len left ≡ r) where
  pub measure_out : out ≡ true → measure false left ≡ r
  unfolding measured
  measure_out t =
      let w : measured (4096 - n) ws b i len left ≡ measure false left = rw (turn n h, ← ep, ← es, ← eo, t) in
      sym w ∙ inv

  pub measure_over : out ≡ false → left < size → measure false left ≡ r
  unfolding measured
  measure_over t g =
      let w : measured (4096 - n) ws b i len left ≡ measure false left = rw (turn n h, ← ep, ← es, ← eo, t, lt-ltb _ _ g) in
      sym w ∙ inv

  module _ (f : Fragment) (t : out ≡ false) (g : size ≤ left) (ef : f ≡ fragment_at ws i) where
    pub measure_last : f.last ≡ true → measure true (left - size) ≡ r
    unfolding measured
    measure_last l =
        let q : (fragment_at ws i).last ≡ true = ap (λ (x : Fragment). x.last) (sym ef) ∙ l in
        let w : measured (4096 - n) ws b i len left ≡ measure true (left - size) = rw (turn n h, ← ep, ← es, ← eo, t, le-ltb _ _ g, q) in
        sym w ∙ inv

    pub measure_none : (j : ℕ) → f.last ≡ false → j ≡ part_after ws b i → 4096 ≤ j → measure false (left - size) ≡ r
    unfolding measured
    measure_none j l ej m =
        let q : (fragment_at ws i).last ≡ false = ap (λ (x : Fragment). x.last) (sym ef) ∙ l in
        let w : measured (4096 - n) ws b i len left ≡ measure false (left - size) = rw (turn n h, ← ep, ← es, ← eo, t, le-ltb _ _ g, q, ← ej, le-leb _ _ m) in
        sym w ∙ inv

    pub measure_next : (j : ℕ) → f.last ≡ false → j ≡ part_after ws b i → j < 4096 → measured (4096 - (n + 1)) ws b j len (left - size) ≡ r
    unfolding measured
    measure_next j l ej m =
        let q : (fragment_at ws i).last ≡ false = ap (λ (x : Fragment). x.last) (sym ef) ∙ l in
        let w : measured (4096 - n) ws b i len left ≡ measured (4096 - (n + 1)) ws b j len (left - size) = rw (turn n h, ← ep, ← es, ← eo, t, le-ltb _ _ g, q, ← ej, lt-leb _ _ m) in
        sym w ∙ inv

pub measure_end : (ws : List ℕ) (b : Bool) (i len left n : ℕ) (r : Measure) → 4096 ≤ n → measured (4096 - n) ws b i len left ≡ r → measure false left ≡ r
unfolding measured
measure_end ws b i len left n r h inv =
    let w : measured (4096 - n) ws b i len left ≡ measure false left = rw (none_left n h) in
    sym w ∙ inv

-- ------------------------------------------------------------------ hand_out: r is what the whole message leaves

-- reading keeps the buffer's length, on any words
read_kept : (ws st out : List ℕ) (i at : ℕ) → length (read_payload ws st i out at) ≡ length out
unfolding read_payload payload_of
read_kept ws st out i at = go (eqb (read_code ws (length st) i (length out) at) 0) refl
  where
    go : (t : Bool) → eqb (read_code ws (length st) i (length out) at) 0 ≡ t → length (pick t (written out at (payload_of ws st i)) out) ≡ length out
    go true e =
        let o = read_ok ws (length st) i (length out) at (eqb-true _ _ e) in
        let l : length (payload_of ws st i) ≡ size_of ws i = length-take-le (size_of ws i) (drop (place_of ws i) st) (simp length-drop (omega (arith, o.0))) in
        written_length out at (payload_of ws st i) (omega (arith, l, o.1))
    go false e = refl

pub hand_kept : (ws st out out' : List ℕ) (i at n : ℕ) → out' ≡ read_payload ws st i out at → length out ≡ n → length out' ≡ n
hand_kept ws st out out' i at n e h = ap length e ∙ read_kept ws st out i at ∙ h

module _ (ws st out ws' out' : List ℕ) (b : Bool) (i at n : ℕ) (f : Fragment) (r : HandedOut) (h : n < 4096) (ef : f ≡ fragment_at ws i) (eo : out' ≡ read_payload ws st i out at) (ew : ws' ≡ free_row ws b f i) (inv : hand_out (4096 - n) ws st out b i at ≡ r) where
  freed : ws' ≡ free_row ws b (fragment_at ws i) i
  freed = ew ∙ ap (λ (x : Fragment). free_row ws b x i) ef

  pub hand_last : f.last ≡ true → handed_out_words ws' out' ≡ r
  unfolding hand_out
  hand_last l =
      let q : (fragment_at ws i).last ≡ true = ap (λ (x : Fragment). x.last) (sym ef) ∙ l in
      let w : hand_out (4096 - n) ws st out b i at ≡ handed_out_words ws' out' = rw (turn n h, ← freed, ← eo, q) in
      sym w ∙ inv

  module _ (j : ℕ) (l : f.last ≡ false) (ej : j ≡ part_after ws b i) where
    last_no : (fragment_at ws i).last ≡ false
    last_no = ap (λ (x : Fragment). x.last) (sym ef) ∙ l

    pub hand_none : 4096 ≤ j → handed_out_words ws' out' ≡ r
    unfolding hand_out
    hand_none m =
        let w : hand_out (4096 - n) ws st out b i at ≡ handed_out_words ws' out' = rw (turn n h, ← freed, ← eo, last_no, ← ej, le-leb _ _ m) in
        sym w ∙ inv

    pub hand_long : (size : ℕ) → j < 4096 → size ≡ size_of ws i → 2000000 < size → handed_out_words ws' out' ≡ r
    unfolding hand_out
    hand_long size m es g =
        let w : hand_out (4096 - n) ws st out b i at ≡ handed_out_words ws' out' = rw (turn n h, ← freed, ← eo, last_no, ← ej, lt-leb _ _ m, ← es, lt-ltb _ _ g) in
        sym w ∙ inv

    pub hand_next : (size : ℕ) → j < 4096 → size ≡ size_of ws i → size ≤ 2000000 → hand_out (4096 - (n + 1)) ws' st out' b j (at + size) ≡ r
    unfolding hand_out
    hand_next size m es g =
        let w : hand_out (4096 - n) ws st out b i at ≡ hand_out (4096 - (n + 1)) ws' st out' b j (at + size) = rw (turn n h, ← freed, ← eo, last_no, ← ej, lt-leb _ _ m, ← es, le-ltb _ _ g) in
        sym w ∙ inv

pub hand_end : (ws st out : List ℕ) (b : Bool) (i at n : ℕ) (r : HandedOut) → 4096 ≤ n → hand_out (4096 - n) ws st out b i at ≡ r → handed_out_words ws out ≡ r
unfolding hand_out
hand_end ws st out b i at n r h inv =
    let w : hand_out (4096 - n) ws st out b i at ≡ handed_out_words ws out = rw (none_left n h) in
    sym w ∙ inv
