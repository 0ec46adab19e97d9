-- The row whose fragment row i's goes on: `row_before` finds it among the loose rows, and it is the only one. Assumes nothing.
use mathlib.Core.Path.{◌≡◌, sym, ap, ◌∙◌}
use mathlib.Core.Bool.{Bool, true, false, not, ◌&&◌}
use mathlib.Core.List.{List}
use Prim.Native.Nat.{ℕ, suc, ◌≤◌, ◌<◌}
use native.Mathlib.Omega.{arith}
use lib.Dec.{eqb}
use lib.ListN.{length}
use borrow.Author.Tests.{eq-eqb, ne_eqb, le-leb, lt-leb}
use Rattle.types.specs.Wrap.{wrap_suc}
use Rattle.types.proofs.Width.{wrap_below}
use Rattle.queue_words.specs.Flags.{bit}
use Rattle.queue_model.specs.Logic.{same_bool}
use Rattle.receiver_model.specs.Lists.{count}
use Rattle.receiver_model.specs.Types.{DATA, I-DATA, Chunk}
use Rattle.receiver_model.specs.Assembly.{number, same_message, goes_on}
use Rattle.receiver_model.proofs.Lists.{true≢false, and_left, and_right, eqb_is, Value, yes_is, no_is, value, equal, other, compare_same}
use Rattle.receiver_model.proofs.Ranks.{same_bool_is}
use Rattle.receiver_words.specs.Fragments.{fragment_at, FitsFragment}
use Rattle.receiver_words.specs.Index.{same_place_words, same_key_words, find_row}
use Rattle.receiver_words.specs.Link.{first_key}
use Rattle.receiver_words.specs.Chunks.{kind_of, chunk_of}
use Rattle.receiver_words.specs.declared.fragments.Fragment.{Fragment}
use Rattle.receiver_words.proofs.Records.{fragment_at_fits}
use Rattle.receiver_messages.specs.Keys.{previous, preceding}
use Rattle.receiver_messages.specs.Walks.{is_whole, goes_on_words, row_before_words}
use Rattle.linked_receiver.specs.Rows.{Indexed, Unique, chunk_at, loose_rows}
use Rattle.linked_receiver.proofs.Found.{find_indexed}
use Rattle.linked_receiver.proofs.Walks.{KeyAmong, absent, present, key_among, goes_bare, loose_held, held_loose}

-- ------------------------------------------------------------------ what is gone on from has the key before

-- the number before the one after n
pub number_before : (n m : ℕ) → n < 4294967296 → m ≡ wrap_suc 32 n → n ≡ previous m
unfolding previous
number_before n m h e = elim (compare_same n 4294967295) [
  | equal a ↦ (let z : m ≡ 0 = e ∙ ap (wrap_suc 32) a in rw (eq-eqb _ _ z) a)
  | other d ↦ (let z : m ≡ suc n = e ∙ wrap_below 32 n (omega arith) in rw (ne_eqb m 0 (λ q. omega arith)) (omega arith))
]

module _ (c d : Fragment) (p q : List ℕ) (fits : FitsFragment c) where
  back_data : goes_on DATA (chunk_of DATA c p) (chunk_of DATA d q) ≡ true → same_key_words 0 c (preceding d) ≡ true
  unfolding goes_on same_key_words preceding
  back_data e =
      let a = and_left (eqb d.tsn (wrap_suc 32 c.tsn) && not d.first) (same_message DATA (chunk_of DATA c p) (chunk_of DATA d q)) e in
      eq-eqb _ _ (number_before c.tsn d.tsn fits.tsn_fits (eqb_is (and_left (eqb d.tsn (wrap_suc 32 c.tsn)) (not d.first) a)))

  back_i_data : goes_on I-DATA (chunk_of I-DATA c p) (chunk_of I-DATA d q) ≡ true → same_key_words 1 c (preceding d) ≡ true
  unfolding goes_on same_message number same_key_words same_place_words preceding
  back_i_data e =
      let same = eqb c.stream.0 d.stream.0 && same_bool c.unordered d.unordered && eqb c.mid.0 d.mid.0 in
      let f = and_left (eqb d.fsn.0 (wrap_suc 32 c.fsn.0)) same e in
      let m = and_right (eqb d.fsn.0 (wrap_suc 32 c.fsn.0)) same e in
      let l = and_left (eqb c.stream.0 d.stream.0 && same_bool c.unordered d.unordered) (eqb c.mid.0 d.mid.0) m in
      let n = and_right (eqb c.stream.0 d.stream.0 && same_bool c.unordered d.unordered) (eqb c.mid.0 d.mid.0) m in
      let s = and_left (eqb c.stream.0 d.stream.0) (same_bool c.unordered d.unordered) l in
      let u = and_right (eqb c.stream.0 d.stream.0) (same_bool c.unordered d.unordered) l in
      let b : bit c.unordered ≡ bit d.unordered = ap bit (same_bool_is c.unordered d.unordered u) in
      rw (s, eq-eqb _ _ b, n) (eq-eqb _ _ (number_before c.fsn.0 d.fsn.0 fits.fsn_fits (eqb_is f)))

pub back_key : (b : Bool) (c d : Fragment) (p q : List ℕ) → FitsFragment c → goes_on (kind_of b) (chunk_of (kind_of b) c p) (chunk_of (kind_of b) d q) ≡ true → same_key_words (bit b) c (preceding d) ≡ true
back_key false c d p q fits e = back_data c d p q fits e
back_key true c d p q fits e = back_i_data c d p q fits e

-- ------------------------------------------------------------------ the row before

module _ (ws : List ℕ) (b : Bool) (payload : ℕ → List ℕ) (held : List ℕ) (rows : (x : ℕ) → 0 < count x held → x < 4096) (ix : Indexed ws (bit b) held) (few : length held ≤ 4096) (one : Unique ws (bit b) held) where
  abbrev chunk : ℕ → Chunk
  chunk x = chunk_at ws b payload x

  -- row x is loose, not marked last, and row i's fragment goes on its message
  pub record LeadsTo (x i : ℕ) : Type 0 where
    pub loose : 0 < count x (loose_rows ws held)
    pub not_last : (fragment_at ws x).last ≡ false
    pub on : goes_on (kind_of b) (chunk x) (chunk i) ≡ true

  pub data RowBefore (i : ℕ) : Type 0 where
    none_before : row_before_words ws b i ≡ 4096 → ((x : ℕ) → LeadsTo x i → ⊥) → RowBefore i
    one_before : (j : ℕ) → row_before_words ws b i ≡ j → j < 4096 → LeadsTo j i → ((x : ℕ) → LeadsTo x i → x ≡ j) → RowBefore i

  module _ (i j : ℕ) (ej : first_key ws (bit b) (preceding (fragment_at ws i)) held ≡ j) where
    found : find_row ws (bit b) (preceding (fragment_at ws i)) ≡ j
    found = find_indexed ws (bit b) (preceding (fragment_at ws i)) held ix few ∙ ej

    before_none : 4096 ≤ j → row_before_words ws b i ≡ 4096
    unfolding row_before_words
    before_none h = rw (found, le-leb _ _ h)

    before_whole : j < 4096 → is_whole ws j ≡ true → row_before_words ws b i ≡ 4096
    unfolding row_before_words
    before_whole h w = rw (found, lt-leb _ _ h, w)

    before_last : j < 4096 → is_whole ws j ≡ false → (fragment_at ws j).last ≡ true → row_before_words ws b i ≡ 4096
    unfolding row_before_words
    before_last h w l = rw (found, lt-leb _ _ h, w, l)

    before_off : j < 4096 → is_whole ws j ≡ false → goes_on_words b (fragment_at ws j) (fragment_at ws i) ≡ false → (fragment_at ws j).last ≡ false → row_before_words ws b i ≡ 4096
    unfolding row_before_words
    before_off h w g l = rw (found, lt-leb _ _ h, w, g, l)

    before_on : j < 4096 → is_whole ws j ≡ false → goes_on_words b (fragment_at ws j) (fragment_at ws i) ≡ true → (fragment_at ws j).last ≡ false → row_before_words ws b i ≡ j
    unfolding row_before_words
    before_on h w g l = rw (found, lt-leb _ _ h, w, g, l)

  pub row_before : (i : ℕ) → RowBefore i
  row_before i = go (key_among ws (bit b) key held)
    where
      key : Fragment
      key = preceding (fragment_at ws i)

      -- a row that leads to row i has the key
      has_key : (x : ℕ) → LeadsTo x i → (0 < count x held) × (same_key_words (bit b) (fragment_at ws x) key ≡ true)
      has_key x l = ((loose_held ws held x l.loose).0, back_key b (fragment_at ws x) (fragment_at ws i) (payload x) (payload i) (fragment_at_fits ws x) l.on)

      bare : (x : ℕ) → goes_on (kind_of b) (chunk x) (chunk i) ≡ goes_on_words b (fragment_at ws x) (fragment_at ws i)
      bare x = goes_bare b (fragment_at ws x) (fragment_at ws i) (payload x) (payload i)

      go : KeyAmong ws (bit b) key held → RowBefore i
      go (absent q a) = none_before (before_none i 4096 q (omega arith)) (λ x l. let k = has_key x l in true≢false k.1 (a x k.0))
      go (present j q c s) = by_whole (value (is_whole ws j))
        where
          only : (x : ℕ) → LeadsTo x i → x ≡ j
          only x l = let k = has_key x l in one key x j k.0 c k.1 s

          -- row j itself does not lead to row i
          not_it : (LeadsTo j i → ⊥) → (x : ℕ) → LeadsTo x i → ⊥
          not_it isnt x l = isnt (record {
            loose = subst_loose x l.loose (only x l);
            not_last = sym (ap (λ (y : ℕ). (fragment_at ws y).last) (only x l)) ∙ l.not_last;
            on = sym (ap (λ (y : ℕ). goes_on (kind_of b) (chunk y) (chunk i)) (only x l)) ∙ l.on;
          })
            where
              subst_loose : (y : ℕ) → 0 < count y (loose_rows ws held) → y ≡ j → 0 < count j (loose_rows ws held)
              subst_loose y h e = let z = ap (λ (v : ℕ). count v (loose_rows ws held)) e in omega arith

          by_on : is_whole ws j ≡ false → (fragment_at ws j).last ≡ false → Value (goes_on (kind_of b) (chunk j) (chunk i)) → RowBefore i
          by_on w l (yes_is g) = one_before j (before_on i j q (rows j c) w (sym (bare j) ∙ g) l) (rows j c) (record { loose = held_loose ws held j c w; not_last = l; on = g }) only
          by_on w l (no_is g) = none_before (before_off i j q (rows j c) w (sym (bare j) ∙ g) l) (not_it (λ t. true≢false t.on g))

          by_last : is_whole ws j ≡ false → Value (fragment_at ws j).last → RowBefore i
          by_last w (yes_is l) = none_before (before_last i j q (rows j c) w l) (not_it (λ t. true≢false l t.not_last))
          by_last w (no_is l) = by_on w l (value (goes_on (kind_of b) (chunk j) (chunk i)))

          by_whole : Value (is_whole ws j) → RowBefore i
          by_whole (yes_is w) = none_before (before_whole i j q (rows j c) w) (not_it (λ t. true≢false w (loose_held ws held j t.loose).1))
          by_whole (no_is w) = by_last w (value (fragment_at ws j).last)
