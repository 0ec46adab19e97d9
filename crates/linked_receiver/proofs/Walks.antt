-- The row that goes on a message is the model's: `row_after` finds what `first_with (goes_on ..)` finds among the loose fragments. Assumes nothing.
use mathlib.Core.Path.{◌≡◌, refl, sym, ap, ◌∙◌, subst}
use mathlib.Core.Bool.{Bool, true, false, not, ◌&&◌}
use mathlib.Core.List.{List, [], ◌∷◌, map}
use mathlib.Core.Option.{Option, none, some}
use Prim.Native.Nat.{ℕ, zero, suc, ◌≤◌, ◌<◌}
use native.Mathlib.Omega.{arith}
use lib.Dec.{eqb}
use lib.ListN.{length}
use borrow.Author.Tests.{eq-eqb, le-leb, lt-leb, not-true}
use Rattle.types.specs.Wrap.{wrap_suc}
use Rattle.queue_words.specs.Flags.{bit}
use Rattle.queue_model.specs.Logic.{same_bool}
use Rattle.receiver_model.specs.Lists.{count, first_with}
use Rattle.receiver_model.specs.Types.{DATA, I-DATA, Chunk}
use Rattle.receiver_model.specs.Assembly.{number, same_message, goes_on, with_piece, gather_on, gather}
use Rattle.receiver_model.proofs.Lists.{true≢false, and_left, and_right, eqb_is, Value, yes_is, no_is, value, count_nil, count_here, count_there, count_cons, equal, other, compare_same, count_keep_yes, count_keep_no, Search, hit, miss, search_in}
use Rattle.receiver_model.proofs.Ranks.{same_bool_is}
use Rattle.receiver_model.proofs.Gather.{gather_zero, gather_last, gather_next, gather_on_none, gather_on_some}
use Rattle.receiver_words.specs.Fragments.{fragment_at}
use Rattle.receiver_words.specs.Index.{same_place_words, same_key_words, find_row}
use Rattle.receiver_words.specs.Link.{first_key}
use Rattle.receiver_words.specs.Chunks.{kind_of, chunk_of}
use Rattle.receiver_words.specs.declared.fragments.Fragment.{Fragment}
use Rattle.receiver_messages.specs.Keys.{following}
use Rattle.receiver_messages.specs.Walks.{is_whole, goes_on_words, row_after, reaches_last}
use Rattle.linked_receiver.specs.Rows.{Indexed, Unique, chunk_at, loose_rows, tail_rows}
use Rattle.linked_receiver.proofs.Found.{find_indexed}

-- ------------------------------------------------------------------ the first with a key

pub data KeyAmong (ws : List ℕ) (k : ℕ) (f : Fragment) (xs : List ℕ) : Type 0 where
  absent : first_key ws k f xs ≡ 4096 → ((x : ℕ) → 0 < count x xs → same_key_words k (fragment_at ws x) f ≡ false) → KeyAmong ws k f xs
  present : (j : ℕ) → first_key ws k f xs ≡ j → 0 < count j xs → same_key_words k (fragment_at ws j) f ≡ true → KeyAmong ws k f xs

pub key_among : (ws : List ℕ) (k : ℕ) (f : Fragment) (xs : List ℕ) → KeyAmong ws k f xs
unfolding first_key
key_among ws k f [] = absent refl (λ x h. absurd (let z = count_nil x in omega arith))
key_among ws k f (y ∷ ys) = go (value (same_key_words k (fragment_at ws y) f)) (key_among ws k f ys)
  where
    go : Value (same_key_words k (fragment_at ws y) f) → KeyAmong ws k f ys → KeyAmong ws k f (y ∷ ys)
    go (yes_is e) ih = let h = count_here y y ys refl in present y (rw e) (omega arith) e
    go (no_is e) (absent q a) =
        absent (rw e q) (λ x h. elim (compare_same y x) [
          | equal s ↦ subst (λ (z : ℕ). same_key_words k (fragment_at ws z) f ≡ false) s e
          | other d ↦ a x (let c = count_there x y ys d in omega arith)
        ])
    go (no_is e) (present j q h t) = let c = count_cons j y ys in present j (rw e q) (omega arith) t

-- ------------------------------------------------------------------ what goes on has the next key

bits : (a b : Bool) → same_bool a b ≡ true → bit b ≡ bit a
bits a b e = ap bit (sym (same_bool_is a b e))

module _ (c d : Fragment) (p q : List ℕ) where
  goes_data : goes_on DATA (chunk_of DATA c p) (chunk_of DATA d q) ≡ true → same_key_words 0 d (following c) ≡ true
  unfolding goes_on same_key_words following
  goes_data e =
      let a = and_left (eqb d.tsn (wrap_suc 32 c.tsn) && not d.first) (same_message DATA (chunk_of DATA c p) (chunk_of DATA d q)) e in
      and_left (eqb d.tsn (wrap_suc 32 c.tsn)) (not d.first) a

  goes_i_data : goes_on I-DATA (chunk_of I-DATA c p) (chunk_of I-DATA d q) ≡ true → same_key_words 1 d (following c) ≡ true
  unfolding goes_on same_message number same_key_words same_place_words following
  goes_i_data e =
      let f = and_left (eqb d.fsn.0 (wrap_suc 32 c.fsn.0)) (eqb c.stream.0 d.stream.0 && same_bool c.unordered d.unordered && eqb c.mid.0 d.mid.0) e in
      let m = and_right (eqb d.fsn.0 (wrap_suc 32 c.fsn.0)) (eqb c.stream.0 d.stream.0 && same_bool c.unordered d.unordered && eqb c.mid.0 d.mid.0) e in
      let l = and_left (eqb c.stream.0 d.stream.0 && same_bool c.unordered d.unordered) (eqb c.mid.0 d.mid.0) m in
      let n = and_right (eqb c.stream.0 d.stream.0 && same_bool c.unordered d.unordered) (eqb c.mid.0 d.mid.0) m in
      let s = and_left (eqb c.stream.0 d.stream.0) (same_bool c.unordered d.unordered) l in
      let u = and_right (eqb c.stream.0 d.stream.0) (same_bool c.unordered d.unordered) l in
      rw (eq-eqb _ _ (sym (eqb_is s)), eq-eqb _ _ (bits c.unordered d.unordered u), eq-eqb _ _ (sym (eqb_is n))) f

pub goes_key : (b : Bool) (c d : Fragment) (p q : List ℕ) → goes_on (kind_of b) (chunk_of (kind_of b) c p) (chunk_of (kind_of b) d q) ≡ true → same_key_words (bit b) d (following c) ≡ true
goes_key false c d p q e = goes_data c d p q e
goes_key true c d p q e = goes_i_data c d p q e

-- the test does not look at payloads
pub goes_bare : (b : Bool) (c d : Fragment) (p q : List ℕ) → goes_on (kind_of b) (chunk_of (kind_of b) c p) (chunk_of (kind_of b) d q) ≡ goes_on_words b c d
unfolding goes_on same_message number
goes_bare false c d p q = refl
goes_bare true c d p q = refl

-- ------------------------------------------------------------------ loose rows

-- a loose row is held, and in no whole message
pub loose_held : (ws held : List ℕ) (x : ℕ) → 0 < count x (loose_rows ws held) → (0 < count x held) × (is_whole ws x ≡ false)
loose_held ws held x h = go (value (not (is_whole ws x)))
  where
    go : Value (not (is_whole ws x)) → (0 < count x held) × (is_whole ws x ≡ false)
    go (yes_is e) = let c = count_keep_yes x (λ (y : ℕ). not (is_whole ws y)) held e in (omega arith, not-true (is_whole ws x) e)
    go (no_is e) = let c = count_keep_no x (λ (y : ℕ). not (is_whole ws y)) held e in absurd (omega arith)

pub held_loose : (ws held : List ℕ) (x : ℕ) → 0 < count x held → is_whole ws x ≡ false → 0 < count x (loose_rows ws held)
held_loose ws held x h e = let c = count_keep_yes x (λ (y : ℕ). not (is_whole ws y)) held (ap not e) in omega arith

-- ------------------------------------------------------------------ the next row

module _ (ws : List ℕ) (b : Bool) (payload : ℕ → List ℕ) (held : List ℕ) (rows : (x : ℕ) → 0 < count x held → x < 4096) (ix : Indexed ws (bit b) held) (few : length held ≤ 4096) (one : Unique ws (bit b) held) where
  abbrev pub chunk : ℕ → Chunk
  chunk x = chunk_at ws b payload x

  abbrev pub next_test : ℕ → Chunk → Bool
  next_test i d = goes_on (kind_of b) (chunk i) d

  -- `row_after` finds the fragment that the model finds among the loose ones, or none where it finds none
  pub data NextRow (i : ℕ) : Type 0 where
    no_row : row_after ws b i ≡ 4096 → first_with (next_test i) (map chunk (loose_rows ws held)) ≡ none → NextRow i
    a_row : (j : ℕ) → row_after ws b i ≡ j → j < 4096 → 0 < count j (loose_rows ws held) → first_with (next_test i) (map chunk (loose_rows ws held)) ≡ some (chunk j) → NextRow i

  -- what `row_after` answers, by the row found
  module _ (i j : ℕ) (ej : first_key ws (bit b) (following (fragment_at ws i)) held ≡ j) where
    found : find_row ws (bit b) (following (fragment_at ws i)) ≡ j
    found = find_indexed ws (bit b) (following (fragment_at ws i)) held ix few ∙ ej

    after_none : 4096 ≤ j → row_after ws b i ≡ 4096
    unfolding row_after
    after_none h = rw (found, le-leb _ _ h)

    after_whole : j < 4096 → is_whole ws j ≡ true → row_after ws b i ≡ 4096
    unfolding row_after
    after_whole h w = rw (found, lt-leb _ _ h, w)

    after_off : j < 4096 → is_whole ws j ≡ false → goes_on_words b (fragment_at ws i) (fragment_at ws j) ≡ false → row_after ws b i ≡ 4096
    unfolding row_after
    after_off h w g = rw (found, lt-leb _ _ h, w, g)

    after_on : j < 4096 → is_whole ws j ≡ false → goes_on_words b (fragment_at ws i) (fragment_at ws j) ≡ true → row_after ws b i ≡ j
    unfolding row_after
    after_on h w g = rw (found, lt-leb _ _ h, w, g)

  pub next_row : (i : ℕ) → NextRow i
  next_row i = go (search_in chunk (next_test i) (loose_rows ws held)) (key_among ws (bit b) key held)
    where
      key : Fragment
      key = following (fragment_at ws i)

      go : Search chunk (next_test i) (loose_rows ws held) → KeyAmong ws (bit b) key held → NextRow i
      go (hit x f t h) (absent q a) =
          let l = loose_held ws held x h in
          absurd (true≢false (goes_key b (fragment_at ws i) (fragment_at ws x) (payload i) (payload x) t) (a x l.0))
      go (hit x f t h) (present j q c s) =
          let l = loose_held ws held x h in
          let e : j ≡ x = one key j x c l.0 s (goes_key b (fragment_at ws i) (fragment_at ws x) (payload i) (payload x) t) in
          a_row x (after_on i x (q ∙ e) (rows x l.0) l.1 (sym (goes_bare b (fragment_at ws i) (fragment_at ws x) (payload i) (payload x)) ∙ t)) (rows x l.0) h f
      go (miss f n) (absent q a) = no_row (after_none i 4096 q (omega arith)) f
      go (miss f n) (present j q c s) = split (value (is_whole ws j))
        where
          split : Value (is_whole ws j) → NextRow i
          split (yes_is w) = no_row (after_whole i j q (rows j c) w) f
          split (no_is w) = no_row (after_off i j q (rows j c) w (sym (goes_bare b (fragment_at ws i) (fragment_at ws j) (payload i) (payload j)) ∙ n j (held_loose ws held j c w))) f

  -- ---------------------------------------------------------------- the fragments up to the last one

  abbrev pub loose : List Chunk
  loose = map chunk (loose_rows ws held)

  -- the walk forward reaches a fragment marked last exactly if the model gathers the rest of the message, and those are its rows
  pub data Gathered (n i : ℕ) : Type 0 where
    reached : reaches_last n ws b i ≡ true → gather n (kind_of b) loose (chunk i) ≡ some (map chunk (tail_rows n ws b i)) → Gathered n i
    broken : reaches_last n ws b i ≡ false → gather n (kind_of b) loose (chunk i) ≡ none → Gathered n i

  piece_some : (d : Chunk) (ds : List Chunk) → with_piece d (some ds) ≡ some (d ∷ ds)
  unfolding with_piece
  piece_some d ds = refl

  piece_none : (d : Chunk) → with_piece d none ≡ none
  unfolding with_piece
  piece_none d = refl

  module _ (n i : ℕ) where
    tail_last : (fragment_at ws i).last ≡ true → map chunk (tail_rows (suc n) ws b i) ≡ []
    unfolding tail_rows
    tail_last e = rw e

    tail_next : (j : ℕ) → (fragment_at ws i).last ≡ false → row_after ws b i ≡ j → j < 4096 → map chunk (tail_rows (suc n) ws b i) ≡ chunk j ∷ map chunk (tail_rows n ws b j)
    unfolding tail_rows
    tail_next j e r l = ap (map chunk) (at_next e)
      where
        at_next : (fragment_at ws i).last ≡ false → tail_rows (suc n) ws b i ≡ j ∷ tail_rows n ws b j
        at_next f = rw (f, r, lt-leb _ _ l)

    reach_last : (fragment_at ws i).last ≡ true → reaches_last (suc n) ws b i ≡ true
    unfolding reaches_last
    reach_last e = rw e

    reach_none : (fragment_at ws i).last ≡ false → row_after ws b i ≡ 4096 → reaches_last (suc n) ws b i ≡ false
    unfolding reaches_last
    reach_none e r = rw (e, r)

    reach_next : (j : ℕ) → (fragment_at ws i).last ≡ false → row_after ws b i ≡ j → j < 4096 → reaches_last (suc n) ws b i ≡ reaches_last n ws b j
    unfolding reaches_last
    reach_next j e r l = rw (e, r, lt-leb _ _ l)

  pub gathers : (n i : ℕ) → Gathered n i
  unfolding reaches_last
  gathers zero i = broken refl (gather_zero (kind_of b) loose (chunk i))
  gathers (suc n) i = go (value (fragment_at ws i).last) (next_row i) (λ j. gathers n j)
    where
      again : Chunk → Option (List Chunk)
      again d = gather n (kind_of b) loose d

      step : (j : ℕ) → (fragment_at ws i).last ≡ false → row_after ws b i ≡ j → j < 4096 → first_with (next_test i) loose ≡ some (chunk j) → Gathered n j → Gathered (suc n) i
      step j e r l f (reached q g) =
          reached (reach_next n i j e r l ∙ q)
          (gather_next n (kind_of b) loose (chunk i) e ∙ ap (gather_on again) f ∙ gather_on_some again (chunk j) ∙ ap (with_piece (chunk j)) g ∙ piece_some (chunk j) (map chunk (tail_rows n ws b j))
          ∙ ap {B = Option (List Chunk)} some (sym (tail_next n i j e r l)))
      step j e r l f (broken q g) =
          broken (reach_next n i j e r l ∙ q)
          (gather_next n (kind_of b) loose (chunk i) e ∙ ap (gather_on again) f ∙ gather_on_some again (chunk j) ∙ ap (with_piece (chunk j)) g ∙ piece_none (chunk j))

      go : Value (fragment_at ws i).last → NextRow i → ((j : ℕ) → Gathered n j) → Gathered (suc n) i
      go (yes_is e) r ih = reached (reach_last n i e) (gather_last n (kind_of b) loose (chunk i) e ∙ ap {B = Option (List Chunk)} some (sym (tail_last n i e)))
      go (no_is e) (no_row r f) ih = broken (reach_none n i e r) (gather_next n (kind_of b) loose (chunk i) e ∙ ap (gather_on again) f ∙ gather_on_none again)
      go (no_is e) (a_row j r l c f) ih = step j e r l f (ih j)
