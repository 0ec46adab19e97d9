-- What is tested before a fragment is accepted is what the model tests: 24, repeats, 22, 23. Assumes nothing.
use mathlib.Core.Path.{◌≡◌, refl, sym, ap, ap₂, ◌∙◌}
use mathlib.Core.Bool.{Bool, true, false, not, ◌&&◌, ◌||◌}
use mathlib.Core.List.{List}
use Prim.Native.Nat.{ℕ, zero, suc, ◌+◌, ◌^◌, ◌<◌}
use native.Mathlib.Omega.{arith}
use borrow.Author.Tests.{ltb-true, ltb-false, lt-ltb, le-ltb, eqb-true}
use lib.Dec.{eqb, ltb}
use lib.ListN.{length}
use Rattle.queue_words.specs.Flags.{pick}
use Rattle.queue_model.specs.Logic.{any}
use Rattle.receiver_model.specs.Lists.{count, member}
use Rattle.receiver_model.specs.Tsn.{wrapped_difference, is_after, is_far}
use Rattle.receiver_model.specs.Types.{Kind, Chunk, Receiver}
use Rattle.receiver_model.specs.Receive.{same_chunk, same_place, makes_repeat}
use Rattle.receiver_model.specs.Receive as model
use Rattle.receiver_model.proofs.Lists.{true≢false, and_left, and_right, or_left, Value, yes_is, no_is, value}
use Rattle.receiver_model.proofs.Window.{Window}
use Rattle.receiver_words.specs.Tables.{Header, word_at}
use Rattle.receiver_words.specs.Ahead.{ahead_at}
use Rattle.receiver_words.specs.Fragments.{fragment_at}
use Rattle.receiver_words.specs.Index.{same_key_words, find_row}
use Rattle.receiver_words.specs.Link.{first_key, turn_rows}
use Rattle.receiver_words.specs.Chunks.{kind_of, chunk_of}
use Rattle.receiver_words.specs.declared.fragments.Fragment.{Fragment}
use Rattle.receiver_messages.specs.Keys.{interleaved_of}
use Rattle.receiver_store.specs.Words.{payload_of}
use Rattle.receiver_store.proofs.Laws.{same_law}
use Rattle.receiver_fragments.specs.Checks.{last_of, same_fields, held_code, is_ahead, holds_place, repeats}
use Rattle.linked_receiver.specs.Good.{Ghost, GoodReceiver, chunk_in, stands}
use Rattle.linked_receiver.proofs.Found.{find_indexed}
use Rattle.linked_receiver.proofs.Walks.{KeyAmong, absent, present, key_among}
use Rattle.linked_receiver.proofs.HeldRows.{held_row, held_few, AnyHeld, one_held, none_held, any_held}
use Rattle.linked_receiver.proofs.Compares.{code, same_code, place_key, key_place}
use Rattle.receiver_words.proofs.Passes.{member_counts}

-- ------------------------------------------------------------------ tests

pub or_true : (a : Bool) → a || true ≡ true
or_true true = refl
or_true false = refl

or_or : (a c : Bool) → pick a true c ≡ a || c
or_or true c = refl
or_or false c = refl

or_no : (a c : Bool) → a || c ≡ true → a ≡ false → c ≡ true
or_no true c e f = absurd (true≢false refl f)
or_no false c e f = e

or_yes : (a c : Bool) → a || c ≡ false → c ≡ true → ⊥
or_yes true c e f = true≢false refl e
or_yes false c e f = true≢false f e

pub turns_length : (ws : List ℕ) (n i : ℕ) → length (turn_rows ws i n) ≡ n
unfolding turn_rows
turns_length ws zero i = refl
turns_length ws (suc n) i = ap suc (turns_length ws n (i + 1))

-- ------------------------------------------------------------------ one fragment, from good words

module _ (g : Ghost) (ws st : List ℕ) (good : GoodReceiver g ws st) (f : Fragment) (bs : List ℕ) where
  abbrev pub kind : Kind
  kind = kind_of (interleaved_of ws)

  abbrev pub r : Receiver
  r = stands g ws st

  -- the fragment as the model's
  abbrev pub c : Chunk
  c = chunk_of (kind_of (interleaved_of ws)) f bs

  abbrev chunk : ℕ → Chunk
  chunk x = chunk_in ws st x

  abbrev last : ℕ
  last = word_at Header ws 0 2

  pub find_tsn : find_row ws 0 f ≡ first_key ws 0 f g.held
  find_tsn = find_indexed ws 0 f g.held good.by_tsn (held_few g ws st good)

  tsn_key : (x : ℕ) → same_key_words 0 (fragment_at ws x) f ≡ eqb (fragment_at ws x).tsn f.tsn
  unfolding same_key_words
  tsn_key x = refl

  -- ---------------------------------------------------------------- its TSN is held, by row j

  module _ (j : ℕ) (h : 0 < count j g.held) (t : same_key_words 0 (fragment_at ws j) f ≡ true) where
    tsn_is : (fragment_at ws j).tsn ≡ f.tsn
    tsn_is = eqb-true _ _ (sym (tsn_key j) ∙ t)

    only : (x : ℕ) → 0 < count x g.held → eqb (fragment_at ws x).tsn f.tsn ≡ true → x ≡ j
    only x hx e = good.tsn_once f x j hx h (tsn_key x ∙ e) t

    pub held_code_lem : held_code ws st j f bs ≡ code (same_chunk (chunk j) c)
    unfolding held_code
    held_code_lem = ap (λ (n : ℕ). pick (same_fields (fragment_at ws j) f) n 24) (same_law ws st g.held j good.laid h bs) ∙ same_code kind (fragment_at ws j) f (payload_of ws st j) bs tsn_is

    pub held_differs : model.differs c r ≡ not (same_chunk (chunk j) c)
    unfolding model.differs
    held_differs = go (any_held g ws st good test) (value (same_chunk (chunk j) c))
      where
        test : Chunk → Bool
        test d = eqb d.tsn c.tsn && not (same_chunk d c)

        go : AnyHeld g ws st good test → Value (same_chunk (chunk j) c) → any test (model.held r) ≡ not (same_chunk (chunk j) c)
        go (one_held x hx p a) (yes_is s) =
            let e = only x hx (and_left (eqb (fragment_at ws x).tsn f.tsn) (not (same_chunk (chunk x) c)) p) in
            let q = and_right (eqb (fragment_at ws x).tsn f.tsn) (not (same_chunk (chunk x) c)) p in
            absurd (true≢false q (ap (λ (y : ℕ). not (same_chunk (chunk y) c)) e ∙ ap not s))
        go (one_held x hx p a) (no_is s) = a ∙ sym (ap not s)
        go (none_held n a) (yes_is s) = a ∙ sym (ap not s)
        go (none_held n a) (no_is s) = absurd (true≢false (ap₂ (λ (u v : Bool). u && not v) (sym (tsn_key j) ∙ t) s) (n j h))

    pub held_repeats : model.repeats c r ≡ true
    unfolding model.repeats
    held_repeats = go (any_held g ws st good (makes_repeat kind c))
      where
        go : AnyHeld g ws st good (makes_repeat kind c) → (not (is_after f.tsn last) || member f.tsn g.ahead) || any (makes_repeat kind c) (model.held r) ≡ true
        go (one_held x hx p a) = rw a (or_true (not (is_after f.tsn last) || member f.tsn g.ahead))
        go (none_held n a) = absurd (true≢false (sym (tsn_key j) ∙ t) (or_left (eqb (fragment_at ws j).tsn f.tsn) (same_place kind c (chunk j)) (unfold makes_repeat in n j h)))

  -- ---------------------------------------------------------------- its TSN is not held

  module _ (free : (x : ℕ) → 0 < count x g.held → same_key_words 0 (fragment_at ws x) f ≡ false) where
    not_tsn : (x : ℕ) → 0 < count x g.held → eqb (fragment_at ws x).tsn f.tsn ≡ false
    not_tsn x h = sym (tsn_key x) ∙ free x h

    pub new_differs : model.differs c r ≡ false
    unfolding model.differs
    new_differs = go (any_held g ws st good test)
      where
        test : Chunk → Bool
        test d = eqb d.tsn c.tsn && not (same_chunk d c)

        go : AnyHeld g ws st good test → any test (model.held r) ≡ false
        go (one_held x hx p a) = absurd (true≢false (and_left (eqb (fragment_at ws x).tsn f.tsn) (not (same_chunk (chunk x) c)) p) (not_tsn x hx))
        go (none_held n a) = a

    -- a place that is held
    at_place : (v : Bool) → interleaved_of ws ≡ v → (x : ℕ) → same_place kind c (chunk x) ≡ same_place (kind_of v) c (chunk x)
    at_place v e x = ap (λ (u : Bool). same_place (kind_of u) c (chunk x)) e

    place_of : (x : ℕ) → 0 < count x g.held → makes_repeat kind c (chunk x) ≡ true → same_place kind c (chunk x) ≡ true
    unfolding makes_repeat
    place_of x h e = or_no (eqb (fragment_at ws x).tsn f.tsn) (same_place kind c (chunk x)) e (not_tsn x h)

    no_place : (x : ℕ) → makes_repeat kind c (chunk x) ≡ false → same_place kind c (chunk x) ≡ true → ⊥
    unfolding makes_repeat
    no_place x e p = or_yes (eqb (fragment_at ws x).tsn f.tsn) (same_place kind c (chunk x)) e p

    data_place : interleaved_of ws ≡ false → (x : ℕ) → same_place kind c (chunk x) ≡ false
    unfolding same_place
    data_place e x = at_place false e x

    pub new_places : any (makes_repeat kind c) (model.held r) ≡ holds_place ws (interleaved_of ws) f
    unfolding holds_place
    new_places = go (value (interleaved_of ws)) (any_held g ws st good (makes_repeat kind c))
      where
        found : interleaved_of ws ≡ true → find_row ws 1 f ≡ first_key ws 1 f g.held
        found e = find_indexed ws 1 f g.held (good.by_place e) (held_few g ws st good)

        by_key : interleaved_of ws ≡ true → AnyHeld g ws st good (makes_repeat kind c) → KeyAmong ws 1 f g.held → any (makes_repeat kind c) (model.held r) ≡ ltb (find_row ws 1 f) 4096
        by_key e (one_held x h p a) (absent q n) = absurd (true≢false (place_key kind f (fragment_at ws x) bs (payload_of ws st x) (sym (at_place true e x) ∙ place_of x h p)) (n x h))
        by_key e (one_held x h p a) (present j q k s) = a ∙ sym (lt-ltb (find_row ws 1 f) 4096 (let z = found e ∙ q in let l = held_row g ws st good j k in omega arith))
        by_key e (none_held n a) (absent q m) = a ∙ sym (le-ltb (find_row ws 1 f) 4096 (let z = found e ∙ q in omega arith))
        by_key e (none_held n a) (present j q k s) = absurd (no_place j (n j k) (at_place true e j ∙ key_place kind f (fragment_at ws j) bs (payload_of ws st j) s))

        go : Value (interleaved_of ws) → AnyHeld g ws st good (makes_repeat kind c) → any (makes_repeat kind c) (model.held r) ≡ pick (interleaved_of ws) (ltb (find_row ws 1 f) 4096) false
        go (yes_is e) v = by_key e v (key_among ws 1 f g.held) ∙ sym (ap (λ (u : Bool). pick u (ltb (find_row ws 1 f) 4096) false) e)
        go (no_is e) (one_held x h p a) = absurd (true≢false (place_of x h p) (data_place e x))
        go (no_is e) (none_held n a) = a ∙ sym (ap (λ (u : Bool). pick u (ltb (find_row ws 1 f) 4096) false) e)

    -- "one accepted, fetched or not, that it has not yet passed": none is ahead by more than 1,024
    ahead_is : f.tsn < 2 ^ 32 → Window r → is_after f.tsn last ≡ true → is_ahead ws last f.tsn ≡ member f.tsn g.ahead
    unfolding is_ahead is_after is_far
    ahead_is fits w after = go (value (ltb 1024 d)) (value (member f.tsn g.ahead))
      where
        d : ℕ
        d = wrapped_difference 32 f.tsn last

        some_past : 0 < d
        some_past = ltb-true 0 d (and_left (ltb 0 d) (ltb d (2 ^ 31)) after)

        go : Value (ltb 1024 d) → Value (member f.tsn g.ahead) → pick (ltb 1024 d) false (ahead_at ws f.tsn) ≡ member f.tsn g.ahead
        go (yes_is e) (yes_is m) = absurd (let a = w.ahead.near f.tsn (member_counts f.tsn g.ahead m) in let l = ltb-true 1024 d e in omega arith)
        go (yes_is e) (no_is m) = ap (λ (v : Bool). pick v false (ahead_at ws f.tsn)) e ∙ sym m
        go (no_is e) m = ap (λ (v : Bool). pick v false (ahead_at ws f.tsn)) e ∙ good.flags.flags f.tsn fits some_past (ltb-false 1024 d e)

    pub last_is : last_of ws ≡ word_at Header ws 0 2
    unfolding last_of
    last_is = let l = good.last_fits in omega arith

    -- the code's test of repeats is the model's
    pub new_repeats : f.tsn < 2 ^ 32 → Window r → repeats ws (interleaved_of ws) (last_of ws) f ≡ model.repeats c r
    unfolding repeats model.repeats
    new_repeats fits w = ap (λ (t : ℕ). pick (is_after f.tsn t) (pick (is_ahead ws t f.tsn) true (holds_place ws (interleaved_of ws) f)) true) last_is ∙ go (value (is_after f.tsn last))
      where
        ahead : Bool
        ahead = member f.tsn g.ahead

        place : Bool
        place = any (makes_repeat kind c) (model.held r)

        go : Value (is_after f.tsn last) → pick (is_after f.tsn last) (pick (is_ahead ws last f.tsn) true (holds_place ws (interleaved_of ws) f)) true ≡ (not (is_after f.tsn last) || ahead) || place
        go (yes_is e) =
            ap (λ (v : Bool). pick v (pick (is_ahead ws last f.tsn) true (holds_place ws (interleaved_of ws) f)) true) e
            ∙ ap₂ (λ (u v : Bool). pick u true v) (ahead_is fits w e) (sym new_places)
            ∙ or_or ahead place
            ∙ sym (ap (λ (v : Bool). (not v || ahead) || place) e)
        go (no_is e) =
            ap (λ (v : Bool). pick v (pick (is_ahead ws last f.tsn) true (holds_place ws (interleaved_of ws) f)) true) e
            ∙ sym (ap (λ (v : Bool). (not v || ahead) || place) e)
