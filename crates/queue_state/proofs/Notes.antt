-- Events written one behind the other are the model's list of events. Assumes nothing.
use mathlib.Core.Path.{◌≡◌, refl, sym, ap, ◌∙◌}
use mathlib.Core.List.{List, [], ◌∷◌, ◌++◌}
use Prim.Native.Nat.{ℕ, zero, suc, ◌+◌, ◌*◌, ◌-◌, ◌≤◌, ◌<◌}
use native.Mathlib.Omega.{arith}
use native.Mathlib.Nat.{add-zero}
use borrow.Author.Tests.{lt-ltb, le-ltb, le-leb, lt-leb, ne_eqb}
use lib.ListN.{length, set, length-set, length-append}
use Rattle.queue_words.specs.Header.{options_at, totals_at}
use Rattle.queue_words.specs.declared.streams.OutgoingStream.{OutgoingStream}
use Rattle.queue_model.specs.Types.{Event, Stream}
use Rattle.queue_model.specs.Amounts.{low_event, total_falls, stream_falls, lifecycle_events}
use Rattle.queue_streams.specs.Events.{place_words, event_words, put_event, written}
use Rattle.message_chains.specs.Notes.{Notes, notes, noted, low_noted, lifecycle_noted}
use Rattle.message_chains.specs.Heads.{total_notes, stream_notes, sent_notes, drop_notes}
use Rattle.queue_state.specs.Model.{options_of}
use Rattle.queue_words.proofs.Finds.{by_lt}

-- ---- the list

pub put_event_length : (es : List ℕ) (k kind n a : ℕ) → length (put_event es k kind n a) ≡ length es
unfolding put_event
put_event_length es k kind n a = length-set (set (set es (k * place_words) kind) (k * place_words + 1) n) (k * place_words + 2) a ∙ length-set (set es (k * place_words) kind) (k * place_words + 1) n ∙ length-set es (k * place_words) kind

pub written_length : (es : List ℕ) (k : ℕ) (vs : List Event) → length (written es k vs) ≡ length es
unfolding written
written_length es k [] = refl
written_length es k (e ∷ vs) = written_length (put_event es k e.kind e.number e.amount) (suc k) vs ∙ put_event_length es k e.kind e.number e.amount

pub written_append : (es : List ℕ) (k : ℕ) (us vs : List Event) → written es k (us ++ vs) ≡ written (written es k us) (k + length us) vs
unfolding written
written_append es k [] vs = ap (λ n. written es n vs) (sym (add-zero k))
written_append es k (e ∷ us) vs =
    let z : suc k + length us ≡ k + suc (length us) = omega arith in
    written_append (put_event es k e.kind e.number e.amount) (suc k) us vs ∙ ap (λ n. written (written (put_event es k e.kind e.number e.amount) (suc k) us) n vs) z

-- The list with these events from place k on, and the count then.
abbrev pub listed : List ℕ → ℕ → List Event → Notes
listed es k vs = notes (written es k vs) (k + length vs)

pub listed_append : (es : List ℕ) (k : ℕ) (us vs : List Event) → listed es k (us ++ vs) ≡ listed (written es k us) (k + length us) vs
listed_append es k us vs =
    let z : k + length (us ++ vs) ≡ k + length us + length vs = omega (arith, length-append us vs) in
    rw (written_append es k us vs, z)

pub listed_none : (es : List ℕ) (k : ℕ) → listed es k [] ≡ notes es k
unfolding written
listed_none es k = rw (add-zero k)

-- ---- one event

pub noted_is : (es : List ℕ) (k kind n a : ℕ) → event_words ≤ length es → k < 2305 → noted es k kind n a ≡ listed es k (record { kind = kind; number = n; amount = a } ∷ [])
unfolding noted written
noted_is es k kind n a l h = rw (le-ltb 2304 k (omega arith), le-ltb (length es) event_words l)

-- ---- an amount that falls

low_none : (kind n t old new : ℕ) → old ≤ t → low_event kind n t old new ≡ []
unfolding low_event
low_none kind n t old new h = rw (le-ltb t old h)

low_above : (kind n t old new : ℕ) → t < old → t < new → low_event kind n t old new ≡ []
unfolding low_event
low_above kind n t old new h l = rw (lt-ltb t old h, lt-leb new t l)

low_fires : (kind n t old new : ℕ) → t < old → new ≤ t → low_event kind n t old new ≡ record { kind = kind; number = n; amount = new } ∷ []
unfolding low_event
low_fires kind n t old new h l = rw (lt-ltb t old h, le-leb new t l)

pub low_noted_lem : (es : List ℕ) (k kind n t old new : ℕ) → event_words ≤ length es → k + length (low_event kind n t old new) ≤ 2305
    → low_noted es k kind n t old new ≡ listed es k (low_event kind n t old new)
unfolding low_noted
low_noted_lem es k kind n t old new l h = by_lt t old
    (λ a. by_lt t new
    (λ b. rw (low_above kind n t old new a b, lt-leb old t a, lt-ltb t new b) (sym (listed_none es k)))
    (λ b.
    let m : k + 1 ≤ 2305 = rw (low_fires kind n t old new a b) at h in
    rw (low_fires kind n t old new a b, lt-leb old t a, le-ltb t new b) (noted_is es k kind n new l (omega arith))))
    (λ a. rw (low_none kind n t old new a, le-leb old t a) (sym (listed_none es k)))

-- ---- a message that is gone

pub lifecycle_noted_lem : (es : List ℕ) (k n : ℕ) → event_words ≤ length es → k + length (lifecycle_events n) ≤ 2305 → lifecycle_noted es k n ≡ listed es k (lifecycle_events n)
unfolding lifecycle_noted lifecycle_events written
lifecycle_noted_lem es k zero l h = sym (listed_none es k)
lifecycle_noted_lem es k (suc n) l h =
    let a = noted_is es k 3 (suc n) 0 l (omega arith) in
    let l' : event_words ≤ length (put_event es k 3 (suc n) 0) = rw (put_event_length es k 3 (suc n) 0) l in
    let b = noted_is (put_event es k 3 (suc n) 0) (k + 1) 4 (suc n) 0 l' (omega arith) in
    let c : k + 1 + 1 ≡ k + 2 = omega arith in
    let d : k + 1 ≡ suc k = omega arith in
    rw (ne_eqb (suc n) 0 (λ e. omega arith), a) (b ∙ rw (c, d))

-- ---- the total and a stream's amount, each alone

pub total_noted : (ws es : List ℕ) (k n : ℕ) → event_words ≤ length es → k + length (total_falls (options_of (options_at ws)) (totals_at ws).total n) ≤ 2305
    → total_notes ws es k n ≡ listed es k (total_falls (options_of (options_at ws)) (totals_at ws).total n)
unfolding total_notes total_falls
total_noted ws es k n l h = low_noted_lem es k 2 0 (options_at ws).total_threshold (totals_at ws).total ((totals_at ws).total - n) l h

-- s': the stream of the model, with this id and threshold
pub stream_noted : (es : List ℕ) (k id : ℕ) (s : OutgoingStream) (s' : Stream) (n : ℕ) → s'.id ≡ id → s'.threshold ≡ s.low_threshold → event_words ≤ length es
    → k + length (stream_falls s' s.buffered_amount n) ≤ 2305 → stream_notes es k id s n ≡ listed es k (stream_falls s' s.buffered_amount n)
unfolding stream_notes stream_falls
stream_noted es k id s s' n ei et l h =
    let h' : k + length (low_event 1 id s.low_threshold s.buffered_amount (s.buffered_amount - n)) ≤ 2305 = rw (ei, et) at h in
    rw (ei, et) (low_noted_lem es k 1 id s.low_threshold s.buffered_amount (s.buffered_amount - n) l h')

-- ---- "Sending and dropping report total, stream, then 3 and 4 for a drop with an id"

module _ (ws es : List ℕ) (k id : ℕ) (s : OutgoingStream) (s' : Stream) (n : ℕ) (ei : s'.id ≡ id) (et : s'.threshold ≡ s.low_threshold) (l : event_words ≤ length es) where
  pub sent_noted : k + length (total_falls (options_of (options_at ws)) (totals_at ws).total n ++ stream_falls s' s.buffered_amount n) ≤ 2305
      → sent_notes ws es k id s n ≡ listed es k (total_falls (options_of (options_at ws)) (totals_at ws).total n ++ stream_falls s' s.buffered_amount n)
  unfolding sent_notes
  sent_noted h =
      let z = length-append (total_falls (options_of (options_at ws)) (totals_at ws).total n) (stream_falls s' s.buffered_amount n) in
      let a = total_noted ws es k n l (omega arith) in
      let l' : event_words ≤ length (written es k (total_falls (options_of (options_at ws)) (totals_at ws).total n)) = rw (written_length es k (total_falls (options_of (options_at ws)) (totals_at ws).total n)) l in
      rw a
      (stream_noted (written es k (total_falls (options_of (options_at ws)) (totals_at ws).total n)) (k + length (total_falls (options_of (options_at ws)) (totals_at ws).total n)) id s s' n ei et l' (omega arith)
      ∙ sym (listed_append es k (total_falls (options_of (options_at ws)) (totals_at ws).total n) (stream_falls s' s.buffered_amount n)))

  pub drop_noted : (m : ℕ) → k + length (total_falls (options_of (options_at ws)) (totals_at ws).total n ++ stream_falls s' s.buffered_amount n ++ lifecycle_events m) ≤ 2305
      → drop_notes ws es k id s n m ≡ listed es k (total_falls (options_of (options_at ws)) (totals_at ws).total n ++ stream_falls s' s.buffered_amount n ++ lifecycle_events m)
  unfolding drop_notes
  drop_noted m h = behind (total_falls (options_of (options_at ws)) (totals_at ws).total n ++ stream_falls s' s.buffered_amount n) h sent_noted
    where
      behind : (vs : List Event) → k + length (vs ++ lifecycle_events m) ≤ 2305 → (k + length vs ≤ 2305 → sent_notes ws es k id s n ≡ listed es k vs)
          → lifecycle_noted (sent_notes ws es k id s n).events (sent_notes ws es k id s n).count m ≡ listed es k (vs ++ lifecycle_events m)
      behind vs h f =
          let z = length-append vs (lifecycle_events m) in
          let a : sent_notes ws es k id s n ≡ listed es k vs = f (omega arith) in
          let l' : event_words ≤ length (written es k vs) = rw (written_length es k vs) l in
          rw a (lifecycle_noted_lem (written es k vs) (k + length vs) m l' (omega arith) ∙ sym (listed_append es k vs (lifecycle_events m)))
