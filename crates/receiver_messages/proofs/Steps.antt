-- One turn of each loop, over plain values. Assumes nothing.
use mathlib.Core.Path.{◌≡◌, sym, ap, ◌∙◌}
use mathlib.Core.Bool.{Bool, true, false}
use mathlib.Core.List.{List}
use Prim.Native.Nat.{ℕ, suc, ◌+◌, ◌-◌, ◌≤◌, ◌<◌}
use native.Mathlib.Omega.{arith}
use borrow.Author.Tests.{le-leb, lt-leb}
use Rattle.receiver_words.specs.Fragments.{fragment_at}
use Rattle.receiver_words.specs.Index.{find_row}
use Rattle.receiver_words.specs.declared.fragments.Fragment.{Fragment}
use Rattle.receiver_messages.specs.Keys.{next_turn, number_key}
use Rattle.receiver_messages.specs.Walks.{begins_with, row_after, row_before_words, part_after, reaches_last, first_row, marked, mark_whole}
use Rattle.receiver_messages.specs.Readiness.{Turned, turned, take_message, promote}

left : (n : ℕ) → n < 4096 → 4096 - n ≡ suc (4096 - (n + 1))
left n h = omega arith

pub none_left : (n : ℕ) → 4096 ≤ n → 4096 - n ≡ 0
none_left n h = omega arith

-- ------------------------------------------------------------------ reaches_last: r is what the whole walk finds

pub reach_last : (ws : List ℕ) (b : Bool) (i n : ℕ) (f : Fragment) (r : Bool) → n < 4096 → f ≡ fragment_at ws i → f.last ≡ true → reaches_last (4096 - n) ws b i ≡ r → true ≡ r
unfolding reaches_last
reach_last ws b i n f r h ef t inv =
    let q : (fragment_at ws i).last ≡ true = ap (λ (g : Fragment). g.last) (sym ef) ∙ t in
    let w : reaches_last (4096 - n) ws b i ≡ true = rw (left n h, q) in
    sym w ∙ inv

pub reach_none : (ws : List ℕ) (b : Bool) (i n j : ℕ) (f : Fragment) (r : Bool) → n < 4096 → f ≡ fragment_at ws i → f.last ≡ false → j ≡ row_after ws b i → 4096 ≤ j → reaches_last (4096 - n) ws b i ≡ r
    → false ≡ r
unfolding reaches_last
reach_none ws b i n j f r h ef t ej g inv =
    let q : (fragment_at ws i).last ≡ false = ap (λ (g : Fragment). g.last) (sym ef) ∙ t in
    let w : reaches_last (4096 - n) ws b i ≡ false = rw (left n h, q, ← ej, le-leb _ _ g) in
    sym w ∙ inv

pub reach_next : (ws : List ℕ) (b : Bool) (i n j : ℕ) (f : Fragment) (r : Bool) → n < 4096 → f ≡ fragment_at ws i → f.last ≡ false → j ≡ row_after ws b i → j < 4096 → reaches_last (4096 - n) ws b i ≡ r
    → reaches_last (4096 - (n + 1)) ws b j ≡ r
unfolding reaches_last
reach_next ws b i n j f r h ef t ej g inv =
    let q : (fragment_at ws i).last ≡ false = ap (λ (g : Fragment). g.last) (sym ef) ∙ t in
    let w : reaches_last (4096 - n) ws b i ≡ reaches_last (4096 - (n + 1)) ws b j = rw (left n h, q, ← ej, lt-leb _ _ g) in
    sym w ∙ inv

pub reach_end : (ws : List ℕ) (b : Bool) (i n : ℕ) (r : Bool) → 4096 ≤ n → reaches_last (4096 - n) ws b i ≡ r → false ≡ r
unfolding reaches_last
reach_end ws b i n r h inv =
    let w : reaches_last (4096 - n) ws b i ≡ false = rw (none_left n h) in
    sym w ∙ inv

-- ------------------------------------------------------------------ first_row

pub first_here : (ws : List ℕ) (b : Bool) (i n r : ℕ) (f : Fragment) (on : Bool) → n < 4096 → f ≡ fragment_at ws i → on ≡ begins_with b f → on ≡ true → first_row (4096 - n) ws b i ≡ r → i ≡ r
unfolding first_row
first_here ws b i n r f on h ef eo t inv =
    let q : begins_with b (fragment_at ws i) ≡ true = ap (begins_with b) (sym ef) ∙ sym eo ∙ t in
    let w : first_row (4096 - n) ws b i ≡ i = rw (left n h, q) in
    sym w ∙ inv

pub first_none : (ws : List ℕ) (b : Bool) (i n j r : ℕ) (f : Fragment) (on : Bool) → n < 4096 → f ≡ fragment_at ws i → on ≡ begins_with b f → on ≡ false → j ≡ row_before_words ws b i → 4096 ≤ j
    → first_row (4096 - n) ws b i ≡ r → 4096 ≡ r
unfolding first_row
first_none ws b i n j r f on h ef eo t ej g inv =
    let q : begins_with b (fragment_at ws i) ≡ false = ap (begins_with b) (sym ef) ∙ sym eo ∙ t in
    let w : first_row (4096 - n) ws b i ≡ 4096 = rw (left n h, q, ← ej, le-leb _ _ g) in
    sym w ∙ inv

pub first_next : (ws : List ℕ) (b : Bool) (i n j r : ℕ) (f : Fragment) (on : Bool) → n < 4096 → f ≡ fragment_at ws i → on ≡ begins_with b f → on ≡ false → j ≡ row_before_words ws b i → j < 4096
    → first_row (4096 - n) ws b i ≡ r → first_row (4096 - (n + 1)) ws b j ≡ r
unfolding first_row
first_next ws b i n j r f on h ef eo t ej g inv =
    let q : begins_with b (fragment_at ws i) ≡ false = ap (begins_with b) (sym ef) ∙ sym eo ∙ t in
    let w : first_row (4096 - n) ws b i ≡ first_row (4096 - (n + 1)) ws b j = rw (left n h, q, ← ej, lt-leb _ _ g) in
    sym w ∙ inv

pub first_end : (ws : List ℕ) (b : Bool) (i n r : ℕ) → 4096 ≤ n → first_row (4096 - n) ws b i ≡ r → 4096 ≡ r
unfolding first_row
first_end ws b i n r h inv =
    let w : first_row (4096 - n) ws b i ≡ 4096 = rw (none_left n h) in
    sym w ∙ inv

-- ------------------------------------------------------------------ mark_whole: vs is what the whole walk leaves

pub mark_last : (ws ws' vs : List ℕ) (b : Bool) (i n : ℕ) (f : Fragment) → n < 4096 → ws' ≡ marked ws i → f ≡ fragment_at ws' i → f.last ≡ true → mark_whole (4096 - n) ws b i ≡ vs → ws' ≡ vs
unfolding mark_whole
mark_last ws ws' vs b i n f h ew ef t inv =
    let q : (fragment_at ws' i).last ≡ true = ap (λ (g : Fragment). g.last) (sym ef) ∙ t in
    let w : mark_whole (4096 - n) ws b i ≡ ws' = rw (left n h, ← ew, q) in
    sym w ∙ inv

pub mark_none : (ws ws' vs : List ℕ) (b : Bool) (i n j : ℕ) (f : Fragment) → n < 4096 → ws' ≡ marked ws i → f ≡ fragment_at ws' i → f.last ≡ false → j ≡ part_after ws' b i → 4096 ≤ j
    → mark_whole (4096 - n) ws b i ≡ vs → ws' ≡ vs
unfolding mark_whole
mark_none ws ws' vs b i n j f h ew ef t ej g inv =
    let q : (fragment_at ws' i).last ≡ false = ap (λ (g : Fragment). g.last) (sym ef) ∙ t in
    let w : mark_whole (4096 - n) ws b i ≡ ws' = rw (left n h, ← ew, q, ← ej, le-leb _ _ g) in
    sym w ∙ inv

pub mark_next : (ws ws' vs : List ℕ) (b : Bool) (i n j : ℕ) (f : Fragment) → n < 4096 → ws' ≡ marked ws i → f ≡ fragment_at ws' i → f.last ≡ false → j ≡ part_after ws' b i → j < 4096
    → mark_whole (4096 - n) ws b i ≡ vs → mark_whole (4096 - (n + 1)) ws' b j ≡ vs
unfolding mark_whole
mark_next ws ws' vs b i n j f h ew ef t ej g inv =
    let q : (fragment_at ws' i).last ≡ false = ap (λ (g : Fragment). g.last) (sym ef) ∙ t in
    let w : mark_whole (4096 - n) ws b i ≡ mark_whole (4096 - (n + 1)) ws' b j = rw (left n h, ← ew, q, ← ej, lt-leb _ _ g) in
    sym w ∙ inv

pub mark_end : (ws vs : List ℕ) (b : Bool) (i n : ℕ) → 4096 ≤ n → mark_whole (4096 - n) ws b i ≡ vs → ws ≡ vs
unfolding mark_whole
mark_end ws vs b i n h inv =
    let w : mark_whole (4096 - n) ws b i ≡ ws = rw (none_left n h) in
    sym w ∙ inv

-- ------------------------------------------------------------------ promote: t is what the whole promotion leaves

pub promote_none : (ws : List ℕ) (b : Bool) (s x n i : ℕ) (key : Fragment) (t : Turned) → n < 4096 → key ≡ number_key b s x → i ≡ find_row ws 2 key → 4096 ≤ i → promote (4096 - n) ws b s x ≡ t → turned ws x ≡ t
unfolding promote
promote_none ws b s x n i key t h ek ei g inv =
    let w : promote (4096 - n) ws b s x ≡ turned ws x = rw (left n h, ← ek, ← ei, le-leb _ _ g) in
    sym w ∙ inv

pub promote_next : (ws ws' : List ℕ) (b : Bool) (s x y n i : ℕ) (key : Fragment) (t : Turned) → n < 4096 → key ≡ number_key b s x → i ≡ find_row ws 2 key → i < 4096 → ws' ≡ take_message ws key i
    → y ≡ next_turn b x → promote (4096 - n) ws b s x ≡ t → promote (4096 - (n + 1)) ws' b s y ≡ t
unfolding promote
promote_next ws ws' b s x y n i key t h ek ei g ew ey inv =
    let w : promote (4096 - n) ws b s x ≡ promote (4096 - (n + 1)) ws' b s y = rw (left n h, ← ek, ← ei, lt-leb _ _ g, ← ew, ← ey) in
    sym w ∙ inv

pub promote_end : (ws : List ℕ) (b : Bool) (s x n : ℕ) (t : Turned) → 4096 ≤ n → promote (4096 - n) ws b s x ≡ t → turned ws x ≡ t
unfolding promote
promote_end ws b s x n t h inv =
    let w : promote (4096 - n) ws b s x ≡ turned ws x = rw (none_left n h) in
    sym w ∙ inv
