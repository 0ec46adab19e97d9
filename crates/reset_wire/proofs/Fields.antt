-- Reading a response, over plain values: a callee's result is a variable, what it ensures a hypothesis. Assumes nothing.
use mathlib.Core.Path.{◌≡◌, refl, ◌∙◌}
use mathlib.Core.Bool.{true, false}
use mathlib.Core.List.{List}
use mathlib.Core.Option.{Option, none, some}
use Prim.Native.Nat.{ℕ, ◌≤◌}
use native.Mathlib.Omega.{arith}
use borrow.Author.Tests.{le-leb, lt-leb, eq-eqb, ne_eqb}
use lib.ListN.{length}
use Rattle.queue_model.specs.Logic.{only_if, and_then}
use Rattle.big_endian.specs.Numbers.{number_at}
use Rattle.reset_model.specs.Wire as wire
use Rattle.reset_model.specs.Wire.{verdict_of, is_response, read_response}
use Rattle.reset_wire.specs.Response.{Response}
use Rattle.reset_wire.specs.Response.{Commits, RollsBack, KeepsWaiting, Malformed}
use Rattle.reset_wire.specs.Reading.{judged_as, response_of}

-- ---- the result

module _ (n result : ℕ) where
  pub judged_commits : result ≤ 1 → Commits n ≡ judged_as n (verdict_of result)
  unfolding verdict_of
  judged_commits h = rw (le-leb result 1 h)

  pub judged_back : 2 ≤ result → result ≤ 5 → RollsBack n ≡ judged_as n (verdict_of result)
  unfolding verdict_of
  judged_back g h = rw (lt-leb result 1 (omega arith), le-leb result 5 h)

  pub judged_waits : result ≡ 6 → KeepsWaiting n ≡ judged_as n (verdict_of result)
  unfolding verdict_of
  judged_waits h = rw (lt-leb result 1 (omega arith), lt-leb result 5 (omega arith), le-leb result 6 (omega arith))

  pub judged_not : 7 ≤ result → Malformed ≡ judged_as n (verdict_of result)
  unfolding verdict_of
  judged_not h = rw (lt-leb result 1 (omega arith), lt-leb result 5 (omega arith), lt-leb result 6 (omega arith))

-- ---- the layout

module _ (bs : List ℕ) where
  broken : is_response bs ≡ false → Malformed ≡ response_of (read_response bs)
  unfolding read_response only_if
  broken e = rw e

  pub not_long : (length bs ≡ 16 → ⊥) → Malformed ≡ response_of (read_response bs)
  not_long n = broken (unfold is_response in rw (ne_eqb _ _ n))

  module _ (l : length bs ≡ 16) (kind : ℕ) (ek : kind ≡ number_at bs 0 1) where
    pub not_kind : (kind ≡ 130 → ⊥) → Malformed ≡ response_of (read_response bs)
    not_kind n = broken (unfold is_response in rw (eq-eqb _ _ l, ← ek, ne_eqb _ _ n))

    module _ (k : kind ≡ 130) (size : ℕ) (es : size ≡ number_at bs 2 2) where
      pub not_size : (size ≡ 16 → ⊥) → Malformed ≡ response_of (read_response bs)
      not_size n = broken (unfold is_response in rw (eq-eqb _ _ l, ← ek, eq-eqb _ _ k, ← es, ne_eqb _ _ n))

      module _ (s : size ≡ 16) (parameter : ℕ) (ep : parameter ≡ number_at bs 4 2) where
        pub not_parameter : (parameter ≡ 16 → ⊥) → Malformed ≡ response_of (read_response bs)
        not_parameter n = broken (unfold is_response in rw (eq-eqb _ _ l, ← ek, eq-eqb _ _ k, ← es, eq-eqb _ _ s, ← ep, ne_eqb _ _ n))

        module _ (p : parameter ≡ 16) (long : ℕ) (el : long ≡ number_at bs 6 2) where
          pub not_longer : (long ≡ 12 → ⊥) → Malformed ≡ response_of (read_response bs)
          not_longer n = broken (unfold is_response in rw (eq-eqb _ _ l, ← ek, eq-eqb _ _ k, ← es, eq-eqb _ _ s, ← ep, eq-eqb _ _ p, ← el, ne_eqb _ _ n))

          whole : long ≡ 12 → is_response bs ≡ true
          unfolding is_response
          whole h = rw (eq-eqb _ _ l, ← ek, eq-eqb _ _ k, ← es, eq-eqb _ _ s, ← ep, eq-eqb _ _ p, ← el, eq-eqb _ _ h)

          pub is_read : long ≡ 12 → (n result : ℕ) (r : Response) → n ≡ number_at bs 8 4 → result ≡ number_at bs 12 4 → r ≡ judged_as n (verdict_of result) → r ≡ response_of (read_response bs)
          unfolding read_response only_if and_then
          is_read h n result r en eo er = er ∙ rw (whole h, ← en, ← eo) (told (verdict_of result))
            where
              told : (v : Option wire.Verdict) → judged_as n v ≡ response_of (and_then v (λ (x : wire.Verdict). some (record { number = n; verdict = x })))
              told none = refl
              told (some v) = refl
