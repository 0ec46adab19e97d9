-- A held row is found by its key: the search in one chain of an index is the search among all its rows. Assumes nothing.
use mathlib.Core.Path.{◌≡◌, refl, sym, ap, ◌∙◌}
use mathlib.Core.Bool.{Bool, true, false}
use mathlib.Core.List.{List, [], ◌∷◌}
use Prim.Native.Nat.{ℕ, ◌+◌, ◌*◌, ◌%◌, ◌≤◌, ◌<◌}
use native.Mathlib.Omega.{arith}
use lib.Dec.{eqb}
use lib.ListN.{length}
use borrow.Author.Tests.{eqb-true, eq-eqb}
use Rattle.queue_words.specs.Flags.{pick, bit}
use Rattle.receiver_model.specs.Lists.{keep}
use Rattle.receiver_model.proofs.Lists.{true≢false, Value, yes_is, no_is, value, keep_yes, keep_no, length_keep}
use Rattle.receiver_words.specs.Tables.{Buckets, word_at}
use Rattle.receiver_words.specs.Fragments.{fragment_at}
use Rattle.receiver_words.specs.Index.{bucket_of, same_place_words, same_number, same_key_words, find_row}
use Rattle.receiver_words.specs.Link.{first_key}
use Rattle.receiver_words.specs.declared.fragments.Fragment.{Fragment}
use Rattle.receiver_words.proofs.Finds.{find_linked}
use Rattle.linked_receiver.specs.Rows.{hits, Indexed}
use Rattle.payload_store.proofs.Cases.{pick_both}

-- ------------------------------------------------------------------ one key, one bucket

module _ (f g : Fragment) where
  place_alike : same_place_words f g ≡ true → (f.stream.0 ≡ g.stream.0) × ((f.mid.0 ≡ g.mid.0) × (f.fsn.0 ≡ g.fsn.0))
  unfolding same_place_words
  place_alike e =
      let u = eqb (bit f.unordered) (bit g.unordered) in
      let m = eqb f.mid.0 g.mid.0 in
      let n = eqb f.fsn.0 g.fsn.0 in
      let p = pick_both (eqb f.stream.0 g.stream.0) (pick u (pick m n false) false) e in
      let q = pick_both u (pick m n false) p.1 in
      let r = pick_both m n q.1 in
      (eqb-true _ _ p.0, (eqb-true _ _ r.0, eqb-true _ _ r.1))

  number_alike : same_number f g ≡ true → (f.stream.0 ≡ g.stream.0) × ((f.ssn.0 ≡ g.ssn.0) × (f.mid.0 ≡ g.mid.0))
  unfolding same_number
  number_alike e =
      let p = pick_both _ _ e in
      let q = pick_both _ _ p.1 in
      (eqb-true _ _ p.0, (eqb-true _ _ q.0, eqb-true _ _ q.1))

  pub one_bucket : (k : ℕ) → same_key_words k f g ≡ true → bucket_of k f ≡ bucket_of k g
  unfolding same_key_words bucket_of
  one_bucket k e = by_tsn (eqb k 0) e
    where
      tsn_bucket : Fragment → ℕ
      tsn_bucket x = x.tsn % 4096

      by_place : (c : Bool) → pick c (same_place_words f g) (same_number f g) ≡ true
          → pick c ((f.fsn.0 + f.mid.0 * 61 + f.stream.0 * 509) % 4096) ((f.ssn.0 + f.mid.0 + f.stream.0 * 509) % 4096)
          ≡ pick c ((g.fsn.0 + g.mid.0 * 61 + g.stream.0 * 509) % 4096) ((g.ssn.0 + g.mid.0 + g.stream.0 * 509) % 4096)
      by_place true d = let a = place_alike d in rw (a.0, a.1.0, a.1.1)
      by_place false d = let a = number_alike d in rw (a.0, a.1.0, a.1.1)

      by_tsn : (c : Bool) → pick c (eqb f.tsn g.tsn) (pick (eqb k 1) (same_place_words f g) (same_number f g)) ≡ true
          → pick c (f.tsn % 4096) (pick (eqb k 1) ((f.fsn.0 + f.mid.0 * 61 + f.stream.0 * 509) % 4096) ((f.ssn.0 + f.mid.0 + f.stream.0 * 509) % 4096))
          ≡ pick c (g.tsn % 4096) (pick (eqb k 1) ((g.fsn.0 + g.mid.0 * 61 + g.stream.0 * 509) % 4096) ((g.ssn.0 + g.mid.0 + g.stream.0 * 509) % 4096))
      by_tsn true d = ap (λ (t : ℕ). t % 4096) (eqb-true _ _ d)
      by_tsn false d = by_place (eqb k 1) d

-- ------------------------------------------------------------------ among the rows of a bucket, among all rows

first_here : (ws : List ℕ) (k : ℕ) (f : Fragment) (x : ℕ) (xs : List ℕ) → same_key_words k (fragment_at ws x) f ≡ true → first_key ws k f (x ∷ xs) ≡ x
unfolding first_key
first_here ws k f x xs e = rw e

pub first_there : (ws : List ℕ) (k : ℕ) (f : Fragment) (x : ℕ) (xs : List ℕ) → same_key_words k (fragment_at ws x) f ≡ false → first_key ws k f (x ∷ xs) ≡ first_key ws k f xs
unfolding first_key
first_there ws k f x xs e = rw e

pub key_keep : (ws : List ℕ) (k : ℕ) (f : Fragment) (xs : List ℕ) → first_key ws k f (keep (hits ws k (bucket_of k f)) xs) ≡ first_key ws k f xs
unfolding keep
key_keep ws k f [] = refl
key_keep ws k f (x ∷ xs) = go (value (same_key_words k (fragment_at ws x) f)) (value (hits ws k (bucket_of k f) x)) (key_keep ws k f xs)
  where
    kept : List ℕ → List ℕ
    kept ys = keep (hits ws k (bucket_of k f)) ys

    go : Value (same_key_words k (fragment_at ws x) f) → Value (hits ws k (bucket_of k f) x) → first_key ws k f (kept xs) ≡ first_key ws k f xs → first_key ws k f (kept (x ∷ xs)) ≡ first_key ws k f (x ∷ xs)
    go (yes_is s) (yes_is h) ih = ap (first_key ws k f) (keep_yes (hits ws k (bucket_of k f)) x xs h) ∙ first_here ws k f x (kept xs) s ∙ sym (first_here ws k f x xs s)
    go (yes_is s) (no_is h) ih = absurd (true≢false (eq-eqb _ _ (one_bucket (fragment_at ws x) f k s)) h)
    go (no_is s) (yes_is h) ih = ap (first_key ws k f) (keep_yes (hits ws k (bucket_of k f)) x xs h) ∙ first_there ws k f x (kept xs) s ∙ ih ∙ sym (first_there ws k f x xs s)
    go (no_is s) (no_is h) ih = ap (first_key ws k f) (keep_no (hits ws k (bucket_of k f)) x xs h) ∙ ih ∙ sym (first_there ws k f x xs s)

pub bucket_in : (k : ℕ) (f : Fragment) → bucket_of k f < 4096
unfolding bucket_of
bucket_in k f = go (eqb k 0) (eqb k 1)
  where
    go : (a b : Bool) → pick a (f.tsn % 4096) (pick b ((f.fsn.0 + f.mid.0 * 61 + f.stream.0 * 509) % 4096) ((f.ssn.0 + f.mid.0 + f.stream.0 * 509) % 4096)) < 4096
    go true b = omega arith
    go false true = omega arith
    go false false = omega arith

-- what `find_row` finds is the first of the rows with the key
pub find_indexed : (ws : List ℕ) (k : ℕ) (f : Fragment) (xs : List ℕ) → Indexed ws k xs → length xs ≤ 4096 → find_row ws k f ≡ first_key ws k f xs
unfolding find_row
find_indexed ws k f xs ix n =
    find_linked ws k f (keep (hits ws k (bucket_of k f)) xs) (word_at Buckets ws (bucket_of k f) k) 4096 (ix (bucket_of k f) (bucket_in k f))
    (let m = length_keep (hits ws k (bucket_of k f)) xs in omega arith)
    ∙ key_keep ws k f xs
