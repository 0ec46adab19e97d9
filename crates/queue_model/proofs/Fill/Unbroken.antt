-- The fragments of a filling's calls stand in the list of those sent: request 10/13 holds over packets. Assumes nothing.
use mathlib.Core.Path.{◌≡◌, refl, sym, ap, ◌∙◌, subst}
use mathlib.Core.Bool.{Bool, false}
use mathlib.Core.List.{List, [], ◌∷◌, ◌++◌, append-nil, append_assoc}
use mathlib.Core.Option.{Option, none, some}
use Prim.Native.Nat.{ℕ, suc, ◌<◌, ◌^◌}
use native.Mathlib.Omega.{arith}
use Rattle.queue_model.specs.Types.{Packet, Options, Queue, Fragment, Answer, refused, done, number, flag, ids, fragment, nothing_waits, filled}
use Rattle.queue_model.specs.Answers.{is_refused, fragments_in, fragment_in}
use Rattle.queue_model.specs.Refusals.{first_refusal, refused_or, checked}
use Rattle.queue_model.specs.Produce.{produce}
use Rattle.queue_model.specs.Fill.{Filling, no_calls, size_asked, one_more, common_header_length, filling, filled_with, fill_checks}
use Rattle.queue_model.specs.Packets.{before}
use Rattle.queue_model.specs.Run.{step}
use Rattle.queue_model.specs.Demands.{Typed}
use Rattle.queue_model.specs.Unbroken.{Sends, goes_on, Request10Packets}
use Rattle.queue_model.proofs.Fill.Calls.{fill_induct}
use Rattle.queue_model.proofs.Fill.Sizes.{size_within}
use Rattle.queue_model.specs.Calls
use Rattle.queue_model.specs.Run as run_spec

one_fragment : (a : Answer) → fragments_in a ≡ before (fragment_in a) []
one_fragment (refused n) = refl
one_fragment done = refl
one_fragment (number n) = refl
one_fragment (flag b) = refl
one_fragment (ids ks) = refl
one_fragment (fragment f) = refl
one_fragment nothing_waits = refl
one_fragment (filled bs n) = refl

module _ (o : Options) (idata : Bool) (store places now limit : ℕ) (s : store < 2 ^ 64) (l : places < 2 ^ 64) (t : now < 2 ^ 64) (m : limit < 2 ^ 64) where
  -- One of its calls.
  one_sends : (n used : ℕ) (q : Queue) (x : Option Fragment) → size_asked idata limit used q ≡ suc n → fragment_in (produce store places (suc n) now (suc n) q).outcome.answer ≡ x
      → (fs : List Fragment) → Sends o q fs → Sends o (produce store places (suc n) now (suc n) q).next (fs ++ before x [])
  unfolding step
  one_sends n used q x e f fs h =
      let z = size_within idata limit used n q e in let w : suc n < 2 ^ 64 = omega arith in
      subst (λ (gs : List Fragment). Sends o (produce store places (suc n) now (suc n) q).next (fs ++ gs)) (one_fragment (produce store places (suc n) now (suc n) q).outcome.answer ∙ ap (λ (y : Option Fragment). before y []) f)
      (goes_on h (run_spec.produce store places (suc n) now (suc n)) (s, (l, (w, (t, w)))) tt)

  -- All of them.
  abbrev On : Queue → Filling → Type 0
  On q r = (fs : List Fragment) → Sends o q fs → Sends o r.next (fs ++ r.fragments)

  on_none : (q : Queue) → On q (no_calls q)
  unfolding no_calls
  on_none q fs h = subst (Sends o q) (sym (append-nil fs)) h

  on_more : (n used : ℕ) (q : Queue) (f : Fragment) (r : Filling) → size_asked idata limit used q ≡ suc n → fragment_in (produce store places (suc n) now (suc n) q).outcome.answer ≡ some f
      → On (produce store places (suc n) now (suc n) q).next r → On q (one_more (suc n) (produce store places (suc n) now (suc n) q) f r)
  on_more n used q f r e g ih fs h = subst (Sends o r.next) (append_assoc fs (f ∷ []) r.fragments) (ih (fs ++ (f ∷ [])) (one_sends n used q (some f) e g fs h))

module _ (o : Options) (store places buffer now : ℕ) (p : Packet) (t : Typed (run_spec.fill store places buffer now p)) (q : Queue) (fs : List Fragment) (h : Sends o q fs) where
  abbrev r : Filling
  r = filling store places now p.limit q

  filling_sends : Sends o r.next (fs ++ r.fragments)
  unfolding filling
  filling_sends =
      let i : Bool = q.interleaving in let n : ℕ = p.limit in
      let s = t.0 in let l = t.1.0 in let w = t.1.1.1.0 in let m = t.1.1.1.1.limit in
      fill_induct i store places now n (λ q. Unit {0}) (λ n q u. tt) (λ used q r. On o i store places now n s l w m q r)
      (λ used q u e. on_none o i store places now n s l w m q)
      (λ k used q u e f. one_sends o i store places now n s l w m k used q none e f)
      (λ k used q f r u e g ih. on_more o i store places now n s l w m k used q f r e g ih)
      n common_header_length q tt (omega arith) fs h

  fill_sends : is_refused (Calls.fill store places buffer now p q).outcome.answer ≡ false → Sends o (Calls.fill store places buffer now p q).next (fs ++ r.fragments)
  unfolding Calls.fill checked refused_or filled_with
  fill_sends = go (first_refusal (fill_checks store places buffer now p.limit q))
    where
      past : (gs : List Fragment) (x : Option ℕ) → is_refused (filled_with p q r gs x).outcome.answer ≡ false → Sends o (filled_with p q r gs x).next (fs ++ r.fragments)
      past [] none e = filling_sends
      past [] (some n) e = let z : ◌≡◌ {A = ℕ} 0 1 = cc in absurd (omega arith)
      past (g ∷ gs) x e = filling_sends

      go : (x : Option ℕ) → is_refused (refused_or x q (filled_with p q r r.fragments r.refusal)).outcome.answer ≡ false
          → Sends o (refused_or x q (filled_with p q r r.fragments r.refusal)).next (fs ++ r.fragments)
      go none e = past r.fragments r.refusal e
      go (some n) e = let z : ◌≡◌ {A = ℕ} 0 1 = cc in absurd (omega arith)

pub request10_packets : Request10Packets
unfolding Request10Packets step
request10_packets o q fs store places buffer now p h t e = fill_sends o store places buffer now p t q fs h e
