-- The invariant by itself: a new queue has it, words with the same places and lengths keep it, and the used bytes fit the store. Assumes nothing.
use mathlib.Core.Path.{◌≡◌, sym, ◌∙◌}
use mathlib.Core.Logic.{inl, inr, ⊎_elim}
use mathlib.Core.List.{List}
use Prim.Native.Nat.{ℕ, ◌≤◌, ◌<◌}
use native.Mathlib.Omega.{arith}
use lib.ListN.{length, drop, length-drop}
use lib.Seq.{length-take-le}
use Rattle.queue_words.specs.declared.header.Gaps.{Gaps}
use Rattle.payload_store.specs.Words.{used_of, gaps_of, place_of, size_of}
use Rattle.payload_store.specs.Gaps.{gaps}
use Rattle.payload_store.specs.Good.{payload_of, ClearOf, Lay, GoodPayloads}
use Rattle.payload_store.specs.Promise.{SamePlaces}
use Rattle.payload_store.proofs.Sums.{sum_same, sum_zero}
use Rattle.payload_store.proofs.Together.{together_law}

-- a new queue: no row has a payload, and nothing is used
pub new_good : (ws st : List ℕ) → length ws ≡ 20768 → ((i : ℕ) → i < 1024 → place_of ws i ≡ 0) → ((i : ℕ) → i < 1024 → size_of ws i ≡ 0) → used_of ws ≡ 0 → gaps_of ws ≡ gaps 0 0 0 0 → GoodPayloads ws st
new_good ws st l p s u e = rw e (record {
  long = l;
  limit_in = omega arith;
  end_in = omega arith;
  upto_in = omega arith;
  from_in = omega arith;
  beside = inl (omega arith);
  inside = λ i h. omega (arith, p i h, s i h);
  clear = λ i h q. absurd (omega (arith, s i h));
  aside = λ i h q. absurd (omega (arith, s i h));
  apart = λ i j hi hj ne si sj. absurd (omega (arith, s i hi));
  used_is = u ∙ sym (sum_zero (size_of ws) 1024 s);
})

same_clear : (ws ws' : List ℕ) → SamePlaces ws ws' → (a b : ℕ) → ClearOf ws a b → ClearOf ws' a b
same_clear ws ws' k a b c i h q =
    ⊎_elim (λ x. inl (omega (arith, k.places i h, k.sizes i h))) (λ x. inr (omega (arith, k.places i h))) (c i h (omega (arith, k.sizes i h)))

-- the invariant and the payloads are told by places, lengths, used bytes and gaps
pub good_same : (ws ws' st : List ℕ) → SamePlaces ws ws' → GoodPayloads ws st → GoodPayloads ws' st
good_same ws ws' st k g = rw k.gaps (record {
  long = k.long ∙ g.long;
  limit_in = g.limit_in;
  end_in = g.end_in;
  upto_in = g.upto_in;
  from_in = g.from_in;
  beside = g.beside;
  inside = λ i h. omega (arith, k.places i h, k.sizes i h, g.inside i h);
  clear = same_clear ws ws' k (gaps_of ws).end (gaps_of ws).limit g.clear;
  aside = same_clear ws ws' k (gaps_of ws).from (gaps_of ws).upto g.aside;
  apart = λ i j hi hj ne si sj.
      ⊎_elim (λ l. inl (omega (arith, k.places i hi, k.sizes i hi, k.places j hj))) (λ l. inr (omega (arith, k.places i hi, k.sizes j hj, k.places j hj)))
      (g.apart i j hi hj ne (omega (arith, k.sizes i hi)) (omega (arith, k.sizes j hj)));
  used_is = k.used ∙ (g.used_is ∙ sym (sum_same (size_of ws) (size_of ws') 1024 k.sizes));
})

pub payload_kept : (ws ws' st : List ℕ) (i : ℕ) → SamePlaces ws ws' → i < 1024 → payload_of ws' st i ≡ payload_of ws st i
unfolding payload_of
payload_kept ws ws' st i k h = rw (k.places i h, k.sizes i h)

-- no more bytes are used than the store has
pub used_fits : (ws st : List ℕ) (at : Gaps) → Lay ws st at → used_of ws ≤ length st
used_fits ws st at g =
    let t = together_law ws st at g in
    omega (arith, t.lay.end_in)

-- a payload is as long as its row says
pub payload_length : (ws st : List ℕ) (at : Gaps) (i : ℕ) → Lay ws st at → i < 1024 → length (payload_of ws st i) ≡ size_of ws i
unfolding payload_of
payload_length ws st at i g h = length-take-le (size_of ws i) (drop (place_of ws i) st) (simp length-drop (omega (arith, g.inside i h)))
