-- A TSN is accepted, and the last one without a gap moves on: as in the model, and nothing else is changed. Assumes nothing.
use mathlib.Core.Path.{◌≡◌, refl, sym, ap, ◌∙◌, subst}
use mathlib.Core.Bool.{Bool, true, false}
use mathlib.Core.List.{List, [], ◌∷◌}
use Prim.Native.Nat.{ℕ, zero, suc, ◌%◌, ◌^◌, ◌≤◌, ◌<◌}
use native.Mathlib.Omega.{arith}
use lib.Dec.{ltb}
use lib.ListN.{length}
use borrow.Author.Tests.{ltb-true, ltb-false}
use Rattle.types.specs.Wrap.{wrap_suc}
use Rattle.queue_words.specs.Flags.{bit, flag, pick}
use Rattle.receiver_model.specs.Lists.{member, count}
use Rattle.receiver_model.specs.Tsn.{wrapped_difference, is_after, is_far}
use Rattle.receiver_model.specs.Receive.{Passed, pass}
use Rattle.receiver_model.proofs.Lists.{true≢false, and_left, member_here, member_there, equal, other, compare_same, count_nil, count_here, count_there}
use Rattle.receiver_model.proofs.Window.{Ahead}
use Rattle.receiver_words.specs.Tables.{Table, Header, rows, width, distinct, word_at, put_word, row_at}
use Rattle.receiver_words.specs.Tables as table
use Rattle.receiver_words.specs.Ahead.{ahead_at, put_ahead}
use Rattle.receiver_words.specs.Window.{Passing, passing, pass_from, pass_all}
use Rattle.receiver_words.specs.Link.{Flags, Passes}
use Rattle.receiver_words.proofs.Laws.{whole_put_word, word_put_same, word_put_beside, word_put_other, word_put_table, row_put_word_table}
use Rattle.receiver_words.proofs.Passes.{passes_all}
use Rattle.receiver_fragments.specs.Holding.{pass_tsn}

-- ------------------------------------------------------------------ what passing leaves alone

-- nothing is changed but the flags and the last TSN
pub record OnlyWindow (ws ws' : List ℕ) : Type 0 where
  pub long : length ws' ≡ length ws
  pub header : (m : ℕ) → m < 16 → (2 ≡ m → ⊥) → word_at Header ws' 0 m ≡ word_at Header ws 0 m
  pub words : (z : Table) (j m : ℕ) → distinct Header z ≡ true → distinct table.Ahead z ≡ true → j < rows z → m < width z → word_at z ws' j m ≡ word_at z ws j m
  pub tables : (z : Table) (j : ℕ) → distinct Header z ≡ true → distinct table.Ahead z ≡ true → j < rows z → row_at z ws' j ≡ row_at z ws j

window_none : (ws : List ℕ) → OnlyWindow ws ws
window_none ws = record { long = refl; header = λ m a b. refl; words = λ z j m a b c d. refl; tables = λ z j a b c. refl }

window_both : (ws ws' ws'' : List ℕ) → OnlyWindow ws ws' → OnlyWindow ws' ws'' → OnlyWindow ws ws''
window_both ws ws' ws'' f g = record {
  long = g.long ∙ f.long;
  header = λ m a b. g.header m a b ∙ f.header m a b;
  words = λ z j m a b c d. g.words z j m a b c d ∙ f.words z j m a b c d;
  tables = λ z j a b c. g.tables z j a b c ∙ f.tables z j a b c;
}

window_put : (ws : List ℕ) (t : ℕ) (on : Bool) → OnlyWindow ws (put_ahead ws t on)
window_put ws t on = record {
  long = whole_put_word table.Ahead ws (t % 1024) 0 (bit on);
  header = λ m a b. word_put_table table.Ahead Header ws (t % 1024) 0 (bit on) 0 m refl (omega arith) (omega arith) (omega arith) a;
  words = λ z j m a b c d. word_put_table table.Ahead z ws (t % 1024) 0 (bit on) j m b (omega arith) c (omega arith) d;
  tables = λ z j a b c. row_put_word_table table.Ahead z ws (t % 1024) 0 (bit on) j b (omega arith) c (omega arith);
}

window_last : (ws : List ℕ) (v : ℕ) → OnlyWindow ws (put_word Header ws 0 2 v)
window_last ws v = record {
  long = whole_put_word Header ws 0 2 v;
  header = λ m a b. word_put_beside Header ws 0 2 v m b;
  words = λ z j m a b c d. word_put_table Header z ws 0 2 v j m a (omega arith) c (omega arith) d;
  tables = λ z j a b c. row_put_word_table Header z ws 0 2 v j a (omega arith) c (omega arith);
}

window_pass : (n : ℕ) (ws : List ℕ) (last : ℕ) → OnlyWindow ws (pass_from n ws last).words
unfolding pass_from
window_pass zero ws last = window_none ws
window_pass (suc n) ws last = go (ahead_at ws (wrap_suc 32 last)) (window_pass n (put_ahead ws (wrap_suc 32 last) false) (wrap_suc 32 last))
  where
    again : Passing
    again = pass_from n (put_ahead ws (wrap_suc 32 last) false) (wrap_suc 32 last)

    go : (c : Bool) → OnlyWindow (put_ahead ws (wrap_suc 32 last) false) again.words → OnlyWindow ws (pick c again (passing ws last)).words
    go true ih = window_both ws (put_ahead ws (wrap_suc 32 last) false) again.words (window_put ws (wrap_suc 32 last) false) ih
    go false ih = window_none ws

pass_frame : (ws : List ℕ) (last : ℕ) → OnlyWindow ws (pass_all ws last).words
unfolding pass_all
pass_frame ws last = window_pass 1024 ws last

-- ------------------------------------------------------------------ one TSN more

-- two TSNs of the window with one flag are one
one_flag : (t u last : ℕ) → t < 2 ^ 32 → u < 2 ^ 32 → last < 2 ^ 32 → 0 < wrapped_difference 32 t last → wrapped_difference 32 t last ≤ 1024 → 0 < wrapped_difference 32 u last → wrapped_difference 32 u last ≤ 1024 → t % 1024 ≡ u % 1024 → t ≡ u
one_flag t u last ht hu hl a b c d e = omega arith

pub flags_more : (ws : List ℕ) (last t : ℕ) (ts : List ℕ) → last < 2 ^ 32 → t < 2 ^ 32 → 0 < wrapped_difference 32 t last → wrapped_difference 32 t last ≤ 1024 → Flags ws last ts → Flags (put_ahead ws t true) last (t ∷ ts)
flags_more ws last t ts hl ht a b w = record { long = whole_put_word table.Ahead ws (t % 1024) 0 1 ∙ w.long; flags = at }
  where
    at : (u : ℕ) → u < 2 ^ 32 → 0 < wrapped_difference 32 u last → wrapped_difference 32 u last ≤ 1024 → ahead_at (put_ahead ws t true) u ≡ member u (t ∷ ts)
    at u hu c d = elim (compare_same t u) [
      | equal s ↦ subst (λ (v : ℕ). ahead_at (put_ahead ws t true) v ≡ member v (t ∷ ts)) s (ap flag (word_put_same table.Ahead ws (t % 1024) 0 1 w.long (omega arith) (omega arith)) ∙ sym (member_here t t ts refl))
      | other n ↦ ap flag (word_put_other table.Ahead ws (t % 1024) 0 1 (u % 1024) 0 (λ e. n (one_flag t u last ht hu hl a b c d e)) (omega arith) (omega arith)) ∙ w.flags u hu c d ∙ sym (member_there u t ts n)
    ]

absent : (t : ℕ) (ts : List ℕ) → member t ts ≡ false → count t ts ≡ 0
absent t [] e = count_nil t
absent t (x ∷ xs) e = elim (compare_same x t) [
  | equal s ↦ absurd (true≢false (member_here t x xs s) e)
  | other d ↦ count_there t x xs d ∙ absent t xs (sym (member_there t x xs d) ∙ e)
]

-- a TSN after the last one, not too far, and not yet accepted
pub ahead_more : (last t : ℕ) (ts : List ℕ) → Ahead last ts → t < 2 ^ 32 → is_after t last ≡ true → is_far t last ≡ false → member t ts ≡ false → Ahead last (t ∷ ts)
unfolding is_after is_far
ahead_more last t ts v ht a f n = record {
  last_fits = v.last_fits;
  fits = λ u c. at (λ (x : ℕ). x < 2 ^ 32) u c ht (v.fits u);
  after = λ u c. at (λ (x : ℕ). 0 < wrapped_difference 32 x last) u c (ltb-true _ _ (and_left (ltb 0 (wrapped_difference 32 t last)) (ltb (wrapped_difference 32 t last) (2 ^ 31)) a)) (v.after u);
  near = λ u c. at (λ (x : ℕ). wrapped_difference 32 x last ≤ 1024) u c (ltb-false _ _ f) (v.near u);
  once = λ u. elim (compare_same t u) [
    | equal s ↦ (let c = count_here u t ts s in let z : count u ts ≡ 0 = ap (λ (x : ℕ). count x ts) (sym s) ∙ absent t ts n in omega arith)
    | other d ↦ (let c = count_there u t ts d in let o = v.once u in omega arith)
  ];
}
  where
    at : (P : ℕ → Type 0) (u : ℕ) → 0 < count u (t ∷ ts) → P t → (0 < count u ts → P u) → P u
    at P u c p q = elim (compare_same t u) [
      | equal s ↦ subst P s p
      | other d ↦ q (let e = count_there u t ts d in omega arith)
    ]

-- ------------------------------------------------------------------ pass_tsn

-- the words after a TSN t is accepted, against the model's `pass`
pub record Accepted (ws : List ℕ) (t last : ℕ) (ts : List ℕ) (ws' : List ℕ) : Type 0 where
  pub last_is : word_at Header ws' 0 2 ≡ (pass (suc (length ts)) last (t ∷ ts)).last_tsn
  pub flags : Flags ws' (word_at Header ws' 0 2) (pass (suc (length ts)) last (t ∷ ts)).ahead
  pub window : OnlyWindow ws ws'

-- THE THEOREM of passing: t is 1 to 1,024 past the last TSN and not yet ahead (`Ahead`), the flags are those of the TSNs ahead
pub pass_law : (ws : List ℕ) (t last : ℕ) (ts : List ℕ) → Ahead last (t ∷ ts) → Flags ws last ts → Accepted ws t last ts (pass_tsn ws t last)
unfolding pass_tsn
pass_law ws t last ts v w = record {
  last_is = stored ∙ p.last_is;
  flags = subst (λ (l : ℕ). Flags after l m.ahead) (sym stored) (record { long = (window_last q.words q.last).long ∙ p.kept.long; flags = λ u a b c. kept u ∙ p.kept.flags u a b c });
  window = window_both ws one after (window_put ws t true) (window_both one q.words after passed (window_last q.words q.last));
}
  where
    one : List ℕ
    one = put_ahead ws t true

    q : Passing
    q = pass_all one last

    m : Passed
    m = pass (suc (length ts)) last (t ∷ ts)

    after : List ℕ
    after = put_word Header q.words 0 2 q.last

    here : 0 < count t (t ∷ ts)
    here = let c = count_here t t ts refl in omega arith

    p : Passes q m
    p = passes_all (suc (length ts)) one last (t ∷ ts) v (flags_more ws last t ts v.last_fits (v.fits t here) (v.after t here) (v.near t here) w) (omega arith)

    passed : OnlyWindow one q.words
    passed = pass_frame one last

    stored : word_at Header after 0 2 ≡ q.last
    stored = word_put_same Header q.words 0 2 q.last p.kept.long (omega arith) (omega arith)

    kept : (u : ℕ) → ahead_at after u ≡ ahead_at q.words u
    kept u = ap flag (word_put_table Header table.Ahead q.words 0 2 q.last (u % 1024) 0 refl (omega arith) (omega arith) (omega arith) (omega arith))
