-- A filling on the model: its calls lead to the queue that it leaves, and each asks for bytes within the packet limit. Assumes nothing.
use mathlib.Core.Path.{◌≡◌, refl}
use mathlib.Core.Bool.{true, false}
use mathlib.Core.List.{List, [], ◌∷◌}
use mathlib.Core.Option.{Option, none, some}
use Prim.Native.Nat.{ℕ, suc, ◌≤◌}
use native.Mathlib.Omega.{arith}
use Rattle.queue_model.specs.Types.{Packet, Queue, Fragment}
use Rattle.queue_model.specs.Answers.{is_refused}
use Rattle.queue_model.specs.Refusals.{first_refusal, refused_or, checked}
use Rattle.queue_model.specs.Fill.{Filling, no_calls, size_asked, common_header_length, filling, filled_with, fill_checks}
use Rattle.queue_model.specs.Packets.{separate_calls}
use Rattle.queue_model.specs.Run as run
use Rattle.queue_model.specs.Calls as calls
use Rattle.queue_model.proofs.Checks.{not_less, all_passed}
use Rattle.queue_model.proofs.Fill.Calls.{fill_induct}
use Rattle.queue_model.proofs.Fill.Sizes.{size_within}

-- The calls lead where the filling leads.
pub calls_next : (store places now limit : ℕ) (q : Queue) → run.after (separate_calls store places now (filling store places now limit q).sizes) q ≡ (filling store places now limit q).next
unfolding filling no_calls run.after run.step
calls_next store places now limit q =
    fill_induct q.interleaving store places now limit (λ q. Unit {0}) (λ n q u. tt) (λ used q r. run.after (separate_calls store places now r.sizes) q ≡ r.next)
    (λ used q u e. refl) (λ n used q u e f. refl) (λ n used q f r u e g h. h)
    limit common_header_length q tt (omega arith)

-- Each size is within the limit.
abbrev pub AllWithin : ℕ → List ℕ → Type 0
AllWithin m [] = Unit {0}
AllWithin m (n ∷ ns) = (n ≤ m) × AllWithin m ns

pub sizes_within : (store places now limit : ℕ) (q : Queue) → AllWithin limit (filling store places now limit q).sizes
unfolding filling no_calls
sizes_within store places now limit q =
    fill_induct q.interleaving store places now limit (λ q. Unit {0}) (λ n q u. tt) (λ used q r. AllWithin limit r.sizes)
    (λ used q u e. tt) (λ n used q u e f. (within n used q e, tt)) (λ n used q f r u e g h. (within n used q e, h))
    limit common_header_length q tt (omega arith)
  where
    within : (n used : ℕ) (x : Queue) → size_asked q.interleaving limit used x ≡ suc n → suc n ≤ limit
    within n used x e = let w = size_within q.interleaving limit used n x e in omega arith

-- ------------------------------------------------------------------ what a filling leaves

module _ (store places buffer now : ℕ) (p : Packet) (q : Queue) where
  abbrev r : Filling
  r = filling store places now p.limit q

  pub accepted_next : is_refused (run.step (run.fill store places buffer now p) q).outcome.answer ≡ false → (run.step (run.fill store places buffer now p) q).next ≡ (filling store places now p.limit q).next
  unfolding run.step calls.fill checked refused_or filled_with
  accepted_next = go (first_refusal (fill_checks store places buffer now p.limit q))
    where
      past : (fs : List Fragment) (x : Option ℕ) → is_refused (filled_with p q r fs x).outcome.answer ≡ false → (filled_with p q r fs x).next ≡ r.next
      past [] none e = refl
      past [] (some n) e = let z : ◌≡◌ {A = ℕ} 0 1 = cc in absurd (omega arith)
      past (f ∷ fs) x e = refl

      go : (x : Option ℕ) → is_refused (refused_or x q (filled_with p q r r.fragments r.refusal)).outcome.answer ≡ false → (refused_or x q (filled_with p q r r.fragments r.refusal)).next ≡ r.next
      go none e = past r.fragments r.refusal e
      go (some n) e = let z : ◌≡◌ {A = ℕ} 0 1 = cc in absurd (omega arith)

  pub refused_next : is_refused (run.step (run.fill store places buffer now p) q).outcome.answer ≡ true → (run.step (run.fill store places buffer now p) q).next ≡ q
  unfolding run.step calls.fill checked refused_or filled_with
  refused_next = go (first_refusal (fill_checks store places buffer now p.limit q))
    where
      past : (fs : List Fragment) (x : Option ℕ) → is_refused (filled_with p q r fs x).outcome.answer ≡ true → (filled_with p q r fs x).next ≡ q
      past [] none e = let z : ◌≡◌ {A = ℕ} 0 1 = cc in absurd (omega arith)
      past [] (some n) e = refl
      past (f ∷ fs) x e = let z : ◌≡◌ {A = ℕ} 0 1 = cc in absurd (omega arith)

      go : (x : Option ℕ) → is_refused (refused_or x q (filled_with p q r r.fragments r.refusal)).outcome.answer ≡ true → (refused_or x q (filled_with p q r r.fragments r.refusal)).next ≡ q
      go none e = past r.fragments r.refusal e
      go (some n) e = refl

  -- No check applies; so its limit is within its buffer.
  pub accepted_past : is_refused (run.step (run.fill store places buffer now p) q).outcome.answer ≡ false → first_refusal (fill_checks store places buffer now p.limit q) ≡ none
  unfolding run.step calls.fill checked refused_or
  accepted_past = go (first_refusal (fill_checks store places buffer now p.limit q))
    where
      go : (x : Option ℕ) → is_refused (refused_or x q (filled_with p q r r.fragments r.refusal)).outcome.answer ≡ false → x ≡ none
      go none f = refl
      go (some n) f = let z : ◌≡◌ {A = ℕ} 0 1 = cc in absurd (omega arith)

  pub accepted_within : is_refused (run.step (run.fill store places buffer now p) q).outcome.answer ≡ false → p.limit ≤ buffer
  accepted_within e = not_less buffer p.limit (all_passed (fill_checks store places buffer now p.limit q) (accepted_past e)).1.0
