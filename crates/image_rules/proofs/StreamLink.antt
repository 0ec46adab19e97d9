-- The stream records: the model's reading of them is by position, and its rules are `streams_right_words`. Assumes nothing.
use mathlib.Core.Path.{◌≡◌, refl, sym, ap, ap₂, ◌∙◌}
use mathlib.Core.Bool.{Bool, true, false, not, ◌&&◌}
use mathlib.Core.List.{List, [], ◌∷◌}
use Prim.Native.Nat.{ℕ, zero, suc, ◌+◌, ◌*◌}
use native.Mathlib.Omega.{arith}
use native.Mathlib.Numerals.{add-one}
use borrow.Author.Tests.{lt-ltb, le-ltb, lt-leb, le-leb}
use lib.Dec.{eqb, ltb, leb}
use lib.ListN.{drop}
use lib.Seq.{drop-drop}
use Rattle.queue_words.specs.Flags.{pick}
use Rattle.queue_model.specs.Bytes.{bytes_row}
use Rattle.queue_model.specs.Image.{StreamRecord, stream_widths, plain}
use Rattle.queue_model.specs.Reader.{stream_of_row, read_streams, streams_right}
use Rattle.queue_state.specs.Model.{tab}
use Rattle.queue_state.proofs.Tabs.{tab_same}
use Rattle.handover_records.specs.Records.{stream_at_words}
use Rattle.handover_records.specs.Positions.{stream_record_at}
use Rattle.image_rules.specs.Streams.{is_plain, streams_right_words}
use Rattle.queue_words.proofs.Finds.{by_lt}

-- ------------------------------------------------------------------ reading

-- n stream records from `at` on, one after the other.
unfoldable pub streams_on : List ℕ → ℕ → ℕ → List StreamRecord
streams_on bs at zero = []
streams_on bs at (suc n) = stream_record_at bs at ∷ streams_on bs (at + 14) n

pub on_read : (bs : List ℕ) (n at : ℕ) → read_streams n (drop at bs) ≡ streams_on bs at n
unfolding read_streams streams_on stream_record_at
on_read bs zero at = refl
on_read bs (suc n) at = ap (λ l. stream_of_row (bytes_row stream_widths (drop at bs)) ∷ l) (ap (read_streams n) (drop-drop 14 at bs) ∙ on_read bs n (at + 14))

pub on_tab : (bs : List ℕ) (n at : ℕ) → streams_on bs at n ≡ tab (λ k. stream_record_at bs (at + 14 * k)) n
unfolding streams_on tab
on_tab bs zero at = refl
on_tab bs (suc n) at =
    let z : at ≡ at + 14 * 0 = omega arith in
    let same = tab_same n (λ k. stream_record_at bs (at + 14 * suc k)) (λ k. stream_record_at bs (at + 14 + 14 * k)) (λ k h. let e : at + 14 + 14 * k ≡ at + 14 * suc k = omega arith in ap (stream_record_at bs) e) in
    ap₂ ◌∷◌ (ap (stream_record_at bs) z) (on_tab bs n (at + 14) ∙ same)

pub streams_read : (bs : List ℕ) (n : ℕ) → read_streams n bs ≡ tab (λ k. stream_record_at bs (14 * k)) n
streams_read bs n =
    on_read bs n 0 ∙ on_tab bs n 0
    ∙ tab_same n (λ k. stream_record_at bs (14 * k)) (λ k. stream_record_at bs (0 + 14 * k)) (λ k h. let e : 0 + 14 * k ≡ 14 * k = omega arith in ap (stream_record_at bs) e)

-- ------------------------------------------------------------------ the rules

pub id_same : (bs : List ℕ) (at : ℕ) → (stream_record_at bs at).id ≡ (stream_at_words bs at).id
unfolding stream_record_at stream_at_words
id_same bs at = refl

pub plain_same : (bs : List ℕ) (at d : ℕ) → plain d (stream_record_at bs at) ≡ is_plain (stream_at_words bs at) d
unfolding plain is_plain stream_record_at stream_at_words
plain_same bs at d = both (eqb (stream_at_words bs at).next_ssn 0) (eqb (stream_at_words bs at).next_unordered_mid 0) (eqb (stream_at_words bs at).next_ordered_mid 0) (eqb (stream_at_words bs at).priority d)
  where
    both : (a b c e : Bool) → (a && b && c && e) ≡ pick a (pick b (pick c e false) false) false
    both true true true e = refl
    both true true false e = refl
    both true false c e = refl
    both false b c e = refl

-- The first id of a list is not below a number.
abbrev pub from_id : ℕ → List StreamRecord → Bool
from_id least [] = true
from_id least (r ∷ rs) = leb least r.id

right_cons : (d : ℕ) (r : StreamRecord) (rs : List StreamRecord) → streams_right d (r ∷ rs) ≡ pick (plain d r) false (from_id (r.id + 1) rs && streams_right d rs)
unfolding streams_right
right_cons d r [] = go (plain d r)
  where
    go : (p : Bool) → not p ≡ pick p false true
    go true = refl
    go false = refl
right_cons d r (r' ∷ rs) = rw add-one (go (plain d r) (ltb r.id r'.id) (streams_right d (r' ∷ rs)))
  where
    go : (p a b : Bool) → (not p && a && b) ≡ pick p false (a && b)
    go true a b = refl
    go false true b = refl
    go false false b = refl

-- "Not below" is not "below", and the plain test may stand before it.
order_same : (id least : ℕ) (p x : Bool) → pick p false (pick (ltb id least) false x) ≡ (leb least id && pick p false x)
order_same id least p x = by_lt id least (λ h. rw (lt-ltb _ _ h, lt-leb _ _ h) (none p)) (λ h. rw (le-ltb _ _ h, le-leb _ _ h))
  where
    none : (p : Bool) → pick p false false ≡ false
    none true = refl
    none false = refl

on_suc : (bs : List ℕ) (at n : ℕ) → streams_on bs at (suc n) ≡ stream_record_at bs at ∷ streams_on bs (at + 14) n
unfolding streams_on
on_suc bs at n = refl

pub right_same : (bs : List ℕ) (d n at least : ℕ) → streams_right_words bs d at least n ≡ (from_id least (streams_on bs at n) && streams_right d (streams_on bs at n))
right_same bs d zero at least = unfold streams_right_words streams_on streams_right in refl
right_same bs d (suc n) at least = step (right_same bs d n (at + 14) ((stream_at_words bs at).id + 1))
  where
    rest : List StreamRecord
    rest = streams_on bs (at + 14) n

    step : streams_right_words bs d (at + 14) ((stream_at_words bs at).id + 1) n ≡ (from_id ((stream_at_words bs at).id + 1) (streams_on bs (at + 14) n) && streams_right d (streams_on bs (at + 14) n))
        → streams_right_words bs d at least (suc n) ≡ (from_id least (streams_on bs at (suc n)) && streams_right d (streams_on bs at (suc n)))
    step ih =
        let e : streams_right_words bs d at least (suc n) ≡ pick (is_plain (stream_at_words bs at) d) false (pick (ltb (stream_at_words bs at).id least) false (streams_right_words bs d (at + 14) ((stream_at_words bs at).id + 1) n)) = unfold streams_right_words in refl in
        e
        ∙ ap (λ x. pick (is_plain (stream_at_words bs at) d) false (pick (ltb (stream_at_words bs at).id least) false x)) ih
        ∙ order_same (stream_at_words bs at).id least (is_plain (stream_at_words bs at) d) _
        ∙ sym (rw (on_suc, right_cons, plain_same, id_same))
