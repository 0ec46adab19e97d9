-- Request 5/13 on the model: a filling is its separate calls for the next fragment, none of them refused; the 2,305 places hold their events, and the
-- packet is within its limit. Assumes nothing.
use mathlib.Core.Path.{◌≡◌, refl, sym, ap, ap₂, ◌∙◌, subst}
use mathlib.Core.Bool.{Bool}
use mathlib.Core.List.{List, [], ◌∷◌, ◌++◌, append-nil}
use mathlib.Core.Option.{Option, none, some}
use Prim.Native.Nat.{ℕ, suc, ◌+◌, ◌≤◌}
use native.Mathlib.Omega.{arith}
use lib.ListN.{length, drop}
use Rattle.queue_model.specs.Types.{Packet, Options, Queue, Event, Fragment, Answer, fragment, nothing_waits, filled, Step, reply}
use Rattle.queue_model.specs.Answers.{fragment_in, refusal_in}
use Rattle.queue_model.specs.Refusals.{first_refusal, event_places}
use Rattle.queue_model.specs.Produce.{produce}
use Rattle.queue_model.specs.Chunks.{chunk_length}
use Rattle.queue_model.specs.Fill.{Filling, no_calls, size_asked, last_call, one_more, common_header_length, filling, packet_bytes, filled_with, fill_checks}
use Rattle.queue_model.specs.Run.{Call, fill, step, run, after}
use Rattle.queue_model.specs.Packets.{shown_events, before, shown_fragments, separate_calls, cut_chunks, each_chunk, Asks, full, empty, goes_on, Writable, Fills, Request5}
use Rattle.queue_model.proofs.Checks.{all_passed, checked_past}
use Rattle.queue_model.proofs.Invariant.Well.{Well}
use Rattle.queue_model.proofs.Invariant.Sends.{fine_produce}
use Rattle.queue_model.proofs.Invariant.Sixteen.{reachable_well}
use Rattle.queue_model.proofs.Invariant.Events.{filling_events}
use Rattle.queue_model.proofs.Fill.Calls.{header_long, fill_induct}
use Rattle.queue_model.proofs.Fill.Sizes.{size_within, Past, past_checks}
use Rattle.queue_model.proofs.Fill.Answers.{Gives, gives, waits_none, produce_gives}
use Rattle.queue_model.proofs.Fill.Lengths.{chunks_length, length_packet, chunk_within, Short, packet_back_lem}
use Rattle.queue_model.specs.Calls

-- ---- what an answer of the next fragment is

gives_some : (size : ℕ) (a : Answer) (f : Fragment) → Gives size a → fragment_in a ≡ some f → (a ≡ fragment f) × ((1 ≤ length f.bytes) × (length f.bytes ≤ size))
gives_some size _ f (gives g l m) e =
    let h : g ≡ f = cc in (ap fragment h, subst (λ (x : Fragment). (1 ≤ length x.bytes) × (length x.bytes ≤ size)) h (l, m))
gives_some size _ f waits_none e = let z : ◌≡◌ {A = ℕ} 0 1 = cc in absurd (omega arith)

pub gives_none : (size : ℕ) (a : Answer) → Gives size a → fragment_in a ≡ none → a ≡ nothing_waits
gives_none size _ (gives g l m) e = let z : ◌≡◌ {A = ℕ} 0 1 = cc in absurd (omega arith)
gives_none size _ waits_none e = refl

-- ---- the calls of a filling

module _ (idata : Bool) (store places now limit : ℕ) where
  -- The calls, once `used` bytes are used: by document 02's sizes, none refused, and the same as separate ones; their chunks are within the limit.
  record Right (used : ℕ) (q : Queue) (r : Filling) : Type 0 where
    right_refusal : r.refusal ≡ none
    right_asks : Asks idata store places now limit used q r.sizes
    right_next : after (separate_calls store places now r.sizes) q ≡ r.next
    right_events : shown_events (run (separate_calls store places now r.sizes) q) ≡ r.events
    right_fragments : shown_fragments (run (separate_calls store places now r.sizes) q) ≡ r.fragments
    right_within : used ≤ limit → used + chunks_length idata r.fragments ≤ limit
    right_writable : Writable r.fragments
    right_short : Short idata r.fragments

  -- A well queue with the store of that length.
  record Kind (q : Queue) : Type 0 where
    kind_well : Well q
    kind_store : q.options.store_length ≡ store

  module _ (q₀ : Queue) (t : Past store places now limit q₀) where
    keeps : (n : ℕ) (q : Queue) → Kind q → Kind (produce store places (suc n) now (suc n) q).next
    keeps n q k = let f = fine_produce store places (suc n) now (suc n) q k.kind_well in record { kind_well = f.next_well; kind_store = ap (λ (o : Options). o.store_length) f.same_options ∙ k.kind_store }

    answers : (n used : ℕ) (q : Queue) → Kind q → size_asked idata limit used q ≡ suc n → Gives (suc n) (produce store places (suc n) now (suc n) q).outcome.answer
    answers n used q k e = produce_gives store places (suc n) now (suc n) q (omega arith) k.kind_well (t.calls_pass idata used n q k.kind_store e)

    on_none : (used : ℕ) (q : Queue) → Kind q → size_asked idata limit used q ≡ 0 → common_header_length ≤ used → Right used q (no_calls q)
    unfolding no_calls run after shown_events shown_fragments
    on_none used q k e h = record { right_refusal = refl; right_asks = full e; right_next = refl; right_events = refl; right_fragments = refl; right_within = λ l. omega arith; right_writable = tt; right_short = tt }

    on_last : (n used : ℕ) (q : Queue) → Kind q → size_asked idata limit used q ≡ suc n → fragment_in (produce store places (suc n) now (suc n) q).outcome.answer ≡ none → common_header_length ≤ used
        → Right used q (last_call (suc n) (produce store places (suc n) now (suc n) q))
    unfolding run after shown_events shown_fragments step
    on_last n used q k e f h =
        let s : Step = produce store places (suc n) now (suc n) q in
        let a : s.outcome.answer ≡ nothing_waits = gives_none (suc n) s.outcome.answer (answers n used q k e) f in
        record {
          right_refusal = ap refusal_in a;
          right_asks = empty n e a;
          right_next = refl;
          right_events = append-nil s.outcome.events;
          right_fragments = ap (λ (x : Option Fragment). before x []) f;
          right_within = λ l. omega arith;
          right_writable = tt;
          right_short = tt;
        }

    on_more : (n used : ℕ) (q : Queue) (f : Fragment) (r : Filling) → Kind q → size_asked idata limit used q ≡ suc n → fragment_in (produce store places (suc n) now (suc n) q).outcome.answer ≡ some f
        → (common_header_length ≤ used + chunk_length idata (length f.bytes) → Right (used + chunk_length idata (length f.bytes)) (produce store places (suc n) now (suc n) q).next r)
        → common_header_length ≤ used → Right used q (one_more (suc n) (produce store places (suc n) now (suc n) q) f r)
    unfolding run after shown_events shown_fragments step
    on_more n used q f r k e g ih h =
        let s : Step = produce store places (suc n) now (suc n) q in
        let a = gives_some (suc n) s.outcome.answer f (answers n used q k e) g in
        let w = chunk_within idata limit used n q f e a.1.1 in let i = ih (omega arith) in let z = size_within idata limit used n q e in let y = header_long idata in
        let l₁ = a.1.0 in let l₂ = a.1.1 in
        record {
          right_refusal = i.right_refusal;
          right_asks = goes_on n f r.sizes e a.0 i.right_asks;
          right_next = i.right_next;
          right_events = ap (λ (x : List Event). s.outcome.events ++ x) i.right_events;
          right_fragments = ap₂ before g i.right_fragments;
          right_within = λ l. (let v = i.right_within w in omega arith);
          right_writable = ((l₁, let v = t.limit_high in omega arith), i.right_writable);
          right_short = (let v = t.limit_high in omega arith, i.right_short);
        }

-- ---- the theorem

-- The answer of a filling that no call of which was refused.
filled_none : (p : Packet) (q : Queue) (r : Filling) (fs : List Fragment) → filled_with p q r fs none ≡ reply (filled (packet_bytes q.interleaving p fs) (length fs)) r.events r.next
unfolding filled_with
filled_none p q r [] = refl
filled_none p q r (f ∷ fs) = refl

module _ (q : Queue) (store places buffer now : ℕ) (p : Packet) (w : Well q) (e : first_refusal (fill_checks store places buffer now p.limit q) ≡ none) where
  abbrev r : Filling
  r = filling store places now p.limit q

  past : Past store places now p.limit q
  past = past_checks store places buffer now p.limit q e

  right : Right q.interleaving store places now p.limit common_header_length q (filling store places now p.limit q)
  unfolding filling
  right =
      let il : Bool = q.interleaving in
      fill_induct il store places now p.limit (Kind il store places now p.limit) (keeps il store places now p.limit q past)
      (λ used x s. common_header_length ≤ used → Right il store places now p.limit used x s)
      (on_none il store places now p.limit q past) (on_last il store places now p.limit q past) (on_more il store places now p.limit q past)
      p.limit common_header_length q (record { kind_well = w; kind_store = past.same_store }) (omega arith) (omega arith)

  accepted : step (fill store places buffer now p) q ≡ reply (filled (packet_bytes q.interleaving p r.fragments) (length r.fragments)) r.events r.next
  unfolding step Calls.fill
  accepted =
      checked_past (fill_checks store places buffer now p.limit q) q (filled_with p q r r.fragments r.refusal) (all_passed (fill_checks store places buffer now p.limit q) e)
      ∙ ap (λ (x : Option ℕ). filled_with p q r r.fragments x) right.right_refusal ∙ filled_none p q r r.fragments

  fills : Fills store places buffer now p q
  fills =
      let cs : List Call = separate_calls store places now r.sizes in
      let il : Bool = q.interleaving in
      let fs = right.right_fragments in let es = right.right_events in let ns = right.right_next in let a = accepted in
      let l₁ = length_packet il p r.fragments in let l₂ = right.right_within (let x = past.limit_low in omega arith) in
      record {
        sizes = r.sizes;
        asks = right.right_asks;
        same_step = cc;
        events_few = subst (λ (x : List Event). length x ≤ event_places) (sym es) (filling_events store places now p.limit q w);
        packet_fits = subst (λ (x : List Fragment). length (packet_bytes il p x) ≤ p.limit) (sym fs) (omega arith);
        reads_back = subst (λ (x : List Fragment). cut_chunks (length x) (drop common_header_length (packet_bytes il p x)) ≡ each_chunk il p.tsn x) (sym fs) (packet_back_lem il p r.fragments right.right_short);
        writable = subst Writable (sym fs) right.right_writable;
      }

-- Request 5/13.
pub request5 : Request5
unfolding Request5
request5 o q store places buffer now p c e = fills q store places buffer now p (reachable_well c) e
