-- The calls of a filling that no check refuses: by document 02's sizes, at least one, none of them refused; without a fragment one alone, which says
-- that nothing waits. Assumes nothing.
use mathlib.Core.Path.{◌≡◌, refl, ap, ◌∙◌}
use mathlib.Core.Bool.{Bool, true, false}
use mathlib.Core.List.{List, [], ◌∷◌}
use mathlib.Core.Option.{Option, none, some}
use Prim.Native.Nat.{ℕ, suc, ◌≤◌}
use native.Mathlib.Omega.{arith}
use lib.ListN.{length}
use Rattle.queue_model.specs.Types.{Packet, Options, Queue, Fragment, Answer, fragment, nothing_waits}
use Rattle.queue_model.specs.Answers.{is_refused, fragment_in}
use Rattle.queue_model.specs.Refusals.{first_refusal, refused_or, checked}
use Rattle.queue_model.specs.Produce.{produce}
use Rattle.queue_model.specs.Fill.{Filling, no_calls, size_asked, last_call, one_more, common_header_length, filling, filled_with, fill_checks}
use Rattle.queue_model.specs.Packets.{Asks, full, empty, goes_on}
use Rattle.queue_model.specs.Run as run
use Rattle.queue_model.specs.Calls as calls
use Rattle.queue_model.proofs.Invariant.Well.{Well, room}
use Rattle.queue_model.proofs.Invariant.Sends.{fine_produce}
use Rattle.queue_model.proofs.Fill.Calls.{fill_induct}
use Rattle.queue_model.proofs.Fill.Sizes.{Past, past_checks}
use Rattle.queue_model.proofs.Fill.Answers.{Gives, gives, waits_none, produce_gives}
use Rattle.packets.specs.PacketFilled as packet
use Rattle.linked_packets.specs.Meaning.{filled_of}
use Rattle.queue_model.proofs.Fill.Request5.{gives_none}

-- ------------------------------------------------------------------ the answer

module _ (store places buffer now : ℕ) (p : Packet) (q : Queue) where
  abbrev r : Filling
  r = filling store places now p.limit q

  -- No check applies where no chunk is told, and no call gave a fragment.
  pub no_chunk : (j n : ℕ) → filled_of (run.step (run.fill store places buffer now p) q).outcome.answer j ≡ packet.Filled n 0 0
      → (first_refusal (fill_checks store places buffer now p.limit q) ≡ none) × ((filling store places now p.limit q).fragments ≡ [])
  unfolding run.step calls.fill checked refused_or filled_with
  no_chunk j n = go (first_refusal (fill_checks store places buffer now p.limit q))
    where
      past : (fs : List Fragment) (x : Option ℕ) → filled_of (filled_with p q r fs x).outcome.answer j ≡ packet.Filled n 0 0 → fs ≡ []
      past [] x e = refl
      past (f ∷ fs) x e = let z : suc (length fs) ≡ 0 = cc in absurd (omega arith)

      go : (x : Option ℕ) → filled_of (refused_or x q (filled_with p q r r.fragments r.refusal)).outcome.answer j ≡ packet.Filled n 0 0 → (x ≡ none) × (r.fragments ≡ [])
      go none e = (refl, past r.fragments r.refusal e)
      go (some m) e = let z : ◌≡◌ {A = ℕ} 0 1 = cc in absurd (omega arith)

-- ------------------------------------------------------------------ the call

-- A packet has room for a first payload.
size_some : (idata : Bool) (limit used : ℕ) (q : Queue) → 36 ≤ limit → 1 ≤ q.options.payload_limit → used ≡ common_header_length → size_asked idata limit used q ≡ 0 → ⊥
unfolding size_asked
size_some true limit used q l m u e = omega arith
size_some false limit used q l m u e = omega arith

says_some : (size : ℕ) (a : Answer) (f : Fragment) → Gives size a → fragment_in a ≡ some f → a ≡ fragment f
says_some size _ f (gives g l m) e = let h : g ≡ f = cc in ap fragment h
says_some size _ f waits_none e = let z : ◌≡◌ {A = ℕ} 0 1 = cc in absurd (omega arith)

gives_accepted : (size : ℕ) (a : Answer) → Gives size a → is_refused a ≡ false
gives_accepted size _ (gives f l m) = refl
gives_accepted size _ waits_none = refl

-- Calls for so many bytes, one after another, none of them refused.
abbrev pub AllGive : ℕ → ℕ → ℕ → List ℕ → Queue → Type 0
AllGive store places now [] q = Unit {0}
AllGive store places now (n ∷ ns) q = (is_refused (produce store places n now n q).outcome.answer ≡ false) × AllGive store places now ns (produce store places n now n q).next

-- One call, for some bytes, and it says that nothing waits.
pub record OneCall (store places now : ℕ) (q : Queue) (ns : List ℕ) : Type 0 where
  pub less : ℕ
  pub sizes_are : ns ≡ suc less ∷ []
  pub says : (produce store places (suc less) now (suc less) q).outcome.answer ≡ nothing_waits

module _ (store places buffer now : ℕ) (p : Packet) (q : Queue) (w : Well q) (e : first_refusal (fill_checks store places buffer now p.limit q) ≡ none) where
  past : Past store places now p.limit q
  past = past_checks store places buffer now p.limit q e

  abbrev Kind : Queue → Type 0
  Kind x = Well x × (x.options.store_length ≡ store)

  keeps : (n : ℕ) (x : Queue) → Kind x → Kind (produce store places (suc n) now (suc n) x).next
  keeps n x k = let f = fine_produce store places (suc n) now (suc n) x k.0 in (f.next_well, ap (λ (o : Options). o.store_length) f.same_options ∙ k.1)

  -- What a call answers.
  answers : (n used : ℕ) (x : Queue) → Kind x → size_asked q.interleaving p.limit used x ≡ suc n → Gives (suc n) (produce store places (suc n) now (suc n) x).outcome.answer
  answers n used x k z = produce_gives store places (suc n) now (suc n) x (omega arith) k.0 (past.calls_pass q.interleaving used n x k.1 z)

  some_size : (used : ℕ) (x : Queue) → Kind x → used ≡ common_header_length → size_asked q.interleaving p.limit used x ≡ 0 → ⊥
  some_size used x k u z = size_some q.interleaving p.limit used x past.limit_low (room x.options k.0.creation).limit_low u z

  -- They are asked for document 02's sizes.
  pub all_asked : Asks q.interleaving store places now p.limit common_header_length q (filling store places now p.limit q).sizes
  unfolding filling no_calls run.step
  all_asked =
      fill_induct q.interleaving store places now p.limit Kind keeps (λ used x s. Asks q.interleaving store places now p.limit used x s.sizes)
      (λ used x k z. full z) (λ n used x k z f. empty n z (gives_none (suc n) _ (answers n used x k z) f)) (λ n used x f s k z g h. goes_on n f s.sizes z (says_some (suc n) _ f (answers n used x k z) g) h)
      p.limit common_header_length q (w, past.same_store) (omega arith)

  -- None is refused.
  pub all_give : AllGive store places now (filling store places now p.limit q).sizes q
  unfolding filling no_calls
  all_give =
      fill_induct q.interleaving store places now p.limit Kind keeps (λ used x s. AllGive store places now s.sizes x)
      (λ used x k z. tt) (λ n used x k z f. (gives_accepted (suc n) _ (answers n used x k z), tt)) (λ n used x f s k z g h. (gives_accepted (suc n) _ (answers n used x k z), h))
      p.limit common_header_length q (w, past.same_store) (omega arith)

  -- There is one.
  pub some_call : 1 ≤ length (filling store places now p.limit q).sizes
  unfolding filling no_calls
  some_call =
      fill_induct q.interleaving store places now p.limit Kind keeps (λ used x s. used ≡ common_header_length → 1 ≤ length s.sizes)
      (λ used x k z u. absurd (some_size used x k u z)) (λ n used x k z f u. omega arith) (λ n used x f s k z g h u. omega arith)
      p.limit common_header_length q (w, past.same_store) (omega arith) refl

  -- At the packet's start.
  abbrev Only : ℕ → Queue → Filling → Type 0
  Only used x s = used ≡ common_header_length → s.fragments ≡ [] → OneCall store places now x s.sizes

  on_none : (used : ℕ) (x : Queue) → Kind x → size_asked q.interleaving p.limit used x ≡ 0 → Only used x (no_calls x)
  on_none used x k z u v = absurd (some_size used x k u z)

  on_last : (n used : ℕ) (x : Queue) → Kind x → size_asked q.interleaving p.limit used x ≡ suc n → fragment_in (produce store places (suc n) now (suc n) x).outcome.answer ≡ none
      → Only used x (last_call (suc n) (produce store places (suc n) now (suc n) x))
  on_last n used x k z f u v = record {
    less = n;
    sizes_are = refl;
    says = gives_none (suc n) (produce store places (suc n) now (suc n) x).outcome.answer (answers n used x k z) f;
  }

  on_more : (n used : ℕ) (x : Queue) (f : Fragment) (s : Filling) → Only used x (one_more (suc n) (produce store places (suc n) now (suc n) x) f s)
  on_more n used x f s u v = let z : ◌≡◌ {A = ℕ} 0 1 = cc in absurd (omega arith)

  pub one_call : (filling store places now p.limit q).fragments ≡ [] → OneCall store places now q (filling store places now p.limit q).sizes
  unfolding filling
  one_call =
      fill_induct q.interleaving store places now p.limit Kind keeps Only on_none on_last (λ n used x f s k z g h. on_more n used x f s)
      p.limit common_header_length q (w, past.same_store) (omega arith) refl
