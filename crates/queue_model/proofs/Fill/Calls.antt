-- What holds of every filling, by induction on its calls for the next fragment; and a filling on a well queue: the queue stays well, and no call answers
-- 16. Assumes nothing.
use mathlib.Core.Path.{◌≡◌, refl, ◌∙◌}
use mathlib.Core.Bool.{Bool, true, false}
use mathlib.Core.List.{List, [], ◌∷◌}
use mathlib.Core.Option.{Option, none, some}
use Prim.Native.Nat.{ℕ, zero, suc, ◌+◌, ◌≤◌}
use native.Mathlib.Omega.{arith}
use lib.Dec.{eqb}
use lib.ListN.{length}
use Rattle.queue_model.specs.Types.{Packet, Queue, Fragment, Answer, refused, done, number, flag, ids, fragment, nothing_waits, filled, Step}
use Rattle.queue_model.specs.Answers.{fragment_in, refusal_in}
use Rattle.queue_model.specs.Refusals.{first_refusal, refused_or, checked}
use Rattle.queue_model.specs.Produce.{produce}
use Rattle.queue_model.specs.Chunks.{chunk_header, chunk_length}
use Rattle.queue_model.specs.Fill.{Filling, no_calls, size_asked, last_call, one_more, and_on, asked, fill_on, common_header_length, filling, filled_with, fill_checks}
use Rattle.queue_model.proofs.Invariant.Well.{Well}
use Rattle.queue_model.proofs.Invariant.Fine.{sixteen, Fine, fine_checked}
use Rattle.queue_model.proofs.Invariant.Sends.{fine_produce}
use Rattle.queue_model.specs.Calls

-- ---- induction on the calls

pub header_long : (idata : Bool) → 16 ≤ chunk_header idata
header_long false = omega arith
header_long true = omega arith

-- With no byte left there is no size to ask for.
size_none : (idata : Bool) (limit used : ℕ) (q : Queue) → limit ≤ used → size_asked idata limit used q ≡ 0
unfolding size_asked
size_none idata limit used q h = omega arith

module _ (idata : Bool) (store places now limit : ℕ) where
  -- The call for the next fragment of at most n bytes.
  abbrev pub call : ℕ → Queue → Step
  call n q = produce store places n now n q

  -- The bytes used after a fragment.
  abbrev pub with_chunk : ℕ → Fragment → ℕ
  with_chunk used f = used + chunk_length idata (length f.bytes)

  -- What holds where no size is left, of a last call, and of a call before others if of those, holds of all calls; on queues with a property that each
  -- call keeps. Each
  -- fragment uses bytes of the packet, so the turns suffice.
  module _ (Kind : Queue → Type 0) (keeps : (n : ℕ) (q : Queue) → Kind q → Kind (call (suc n) q).next) (P : ℕ → Queue → Filling → Type 0)
      (on_none : (used : ℕ) (q : Queue) → Kind q → size_asked idata limit used q ≡ 0 → P used q (no_calls q))
      (on_last : (n used : ℕ) (q : Queue) → Kind q → size_asked idata limit used q ≡ suc n → fragment_in (call (suc n) q).outcome.answer ≡ none → P used q (last_call (suc n) (call (suc n) q)))
      (on_more : (n used : ℕ) (q : Queue) (f : Fragment) (r : Filling) → Kind q → size_asked idata limit used q ≡ suc n → fragment_in (call (suc n) q).outcome.answer ≡ some f
      → P (with_chunk used f) (call (suc n) q).next r → P used q (one_more (suc n) (call (suc n) q) f r)) where
    pub fill_induct : (turns used : ℕ) (q : Queue) → Kind q → limit ≤ turns + used → P used q (fill_on idata store places now limit turns used q)
    unfolding fill_on asked and_on
    fill_induct zero used q k l = on_none used q k (size_none idata limit used q (omega arith))
    fill_induct (suc turns) used q k l =
        go (λ n g. let h = header_long idata in fill_induct turns (with_chunk used g) (call (suc n) q).next (keeps n q k) (omega arith)) (size_asked idata limit used q) refl
      where
        more : Fragment → Queue → Filling
        more f r = fill_on idata store places now limit turns (with_chunk used f) r

        Later : Type 0
        Later = (n : ℕ) (g : Fragment) → P (with_chunk used g) (call (suc n) q).next (more g (call (suc n) q).next)

        then : Later → (n : ℕ) → size_asked idata limit used q ≡ suc n → (x : Option Fragment) → fragment_in (call (suc n) q).outcome.answer ≡ x → P used q (and_on (suc n) (call (suc n) q) more x)
        then h n e none f = on_last n used q k e f
        then h n e (some g) f = on_more n used q g (more g (call (suc n) q).next) k e f (h n g)

        go : Later → (m : ℕ) → size_asked idata limit used q ≡ m → P used q (asked store places now q more m)
        go h zero e = on_none used q k e
        go h (suc n) e = then h n e (fragment_in (call (suc n) q).outcome.answer) refl

-- What each call for the next fragment keeps, a filling keeps.
pub fill_keeps : (Kind : Queue → Type 0) → ((store places buffer now size : ℕ) (q : Queue) → Kind q → Kind (produce store places buffer now size q).next)
    → (store places buffer now : ℕ) (p : Packet) (q : Queue) → Kind q → Kind (Calls.fill store places buffer now p q).next
unfolding Calls.fill checked refused_or filled_with filling no_calls
fill_keeps Kind keeps store places buffer now p q k = go (first_refusal (fill_checks store places buffer now p.limit q))
  where
    r : Filling
    r = filling store places now p.limit q

    kept : Kind r.next
    kept =
        fill_induct q.interleaving store places now p.limit Kind (λ n q k. keeps store places (suc n) now (suc n) q k) (λ used q r. Kind r.next)
        (λ used q k e. k) (λ n used q k e f. keeps store places (suc n) now (suc n) q k) (λ n used q f r k e g h. h)
        p.limit common_header_length q k (omega arith)

    past : (fs : List Fragment) (x : Option ℕ) → Kind (filled_with p q r fs x).next
    past [] none = kept
    past [] (some n) = k
    past (f ∷ fs) x = kept

    go : (x : Option ℕ) → Kind (refused_or x q (filled_with p q r r.fragments r.refusal)).next
    go none = past r.fragments r.refusal
    go (some n) = k

-- ---- a filling on a well queue

-- Whether a refusal is 16.
abbrev refusal_sixteen : Option ℕ → Bool
refusal_sixteen none = false
refusal_sixteen (some n) = eqb n 16

answer_sixteen : (a : Answer) → refusal_sixteen (refusal_in a) ≡ sixteen a
answer_sixteen (refused n) = refl
answer_sixteen done = refl
answer_sixteen (number n) = refl
answer_sixteen (flag b) = refl
answer_sixteen (ids ks) = refl
answer_sixteen (fragment f) = refl
answer_sixteen nothing_waits = refl
answer_sixteen (filled bs n) = refl

-- The next queue is well and has the same options, and no call was refused with 16.
pub record FineFilling (q : Queue) (r : Filling) : Type 0 where
  pub filling_well : Well r.next
  pub filling_sixteen : refusal_sixteen r.refusal ≡ false
  pub filling_options : r.next.options ≡ q.options

pub fine_filling : (store places now limit : ℕ) (q : Queue) → Well q → FineFilling q (filling store places now limit q)
unfolding no_calls filling
fine_filling store places now limit q w =
    fill_induct q.interleaving store places now limit Well (λ n q w. (fine n q w).next_well) (λ used q r. FineFilling q r)
    (λ used q w e. record { filling_well = w; filling_sixteen = refl; filling_options = refl })
    (λ n used q w e f. record { filling_well = (fine n q w).next_well; filling_sixteen = answer_sixteen (produce store places (suc n) now (suc n) q).outcome.answer ∙ (fine n q w).not_sixteen; filling_options = (fine n q w).same_options })
    (λ n used q f r w e g h. record { filling_well = h.filling_well; filling_sixteen = h.filling_sixteen; filling_options = h.filling_options ∙ (fine n q w).same_options })
    limit common_header_length q w (omega arith)
  where
    fine : (n : ℕ) (q : Queue) → Well q → Fine q (produce store places (suc n) now (suc n) q)
    fine n q w = fine_produce store places (suc n) now (suc n) q w

-- The answer of a filling.
fine_filled : (p : Packet) (q : Queue) (r : Filling) → Well q → FineFilling q r → Fine q (filled_with p q r r.fragments r.refusal)
unfolding filled_with
fine_filled p q r w h = go r.fragments r.refusal h.filling_sixteen
  where
    go : (fs : List Fragment) (x : Option ℕ) → refusal_sixteen x ≡ false → Fine q (filled_with p q r fs x)
    go [] none e = record { next_well = h.filling_well; not_sixteen = refl; same_options = h.filling_options }
    go [] (some n) e = record { next_well = w; not_sixteen = e; same_options = refl }
    go (f ∷ fs) x e = record { next_well = h.filling_well; not_sixteen = refl; same_options = h.filling_options }

-- Filling a packet is fine.
pub fine_fill : (store places buffer now : ℕ) (p : Packet) (q : Queue) → Well q → Fine q (Calls.fill store places buffer now p q)
unfolding Calls.fill
fine_fill store places buffer now p q w =
    let r : Filling = filling store places now p.limit q in
    fine_checked (fill_checks store places buffer now p.limit q) q (filled_with p q r r.fragments r.refusal) w (λ p₂₀ p₂₁ p₂ p₃ p₄. tt)
    (λ c. fine_filled p q r w (fine_filling store places now p.limit q w))
