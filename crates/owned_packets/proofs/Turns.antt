-- A turn of a filling: after a fragment the words are those of a queue again, and all that it can still report is paid for. Assumes nothing.
use mathlib.Core.Path.{◌≡◌, refl, sym, ap, ap₂, ◌∙◌, subst}
use mathlib.Core.Bool.{not, ◌||◌}
use mathlib.Core.List.{List, [], ◌++◌}
use Prim.Native.Nat.{ℕ, ◌+◌, ◌≤◌}
use native.Mathlib.Omega.{arith}
use borrow.Author.Tests.{eq-eqb, le-ltb}
use lib.ListN.{length, take, drop, length-append, length-drop}
use lib.Seq.{length-take-le}
use Rattle.queue_model.specs.Types.{Event, Options, Answer, refused, done, number, flag, ids, fragment, nothing_waits, filled, Step}
use Rattle.queue_model.specs.Produce.{produce, produce_checks}
use Rattle.queue_model.proofs.Checks.{Passed}
use Rattle.queue_model.proofs.Invariant.Events.{potential, potential_fits, produce_spends}
use Rattle.queue_model.proofs.Fill.Refusals.{after_events}
use Rattle.queue_streams.specs.Events.{event_words, written}
use Rattle.queue_sending.specs.Data.{ProducedWith, produced_with}
use Rattle.queue_sending.specs.Produce.{produced_after}
use Rattle.queue_sending.specs.declared.data.DataToSend.{DataToSend}
use Rattle.queue_sending.specs.Produced.{Produced}
use Rattle.queue_sending.specs.Produced as produced
use Rattle.queue_state.specs.Model.{model}
use Rattle.queue_state.specs.Good.{Good}
use Rattle.queue_state.proofs.Notes.{written_length}
use Rattle.queue_state.proofs.Singles.{model_options}
use Rattle.chunks.specs.Layout.{header_size}
use Rattle.chunks.specs.declared.chunk.ChunkKind.{ChunkKind}
use Rattle.packets.specs.Filling.{one_filled}
use Rattle.linked_sending.specs.Meaning.{Sends, produced_of}
use Rattle.linked_sending.proofs.After.{after_sends}
use Rattle.owned_sending.specs.Passing.{Payable}

-- Where a filling stands that began with the list es₀: the words are those of a queue, the events of its calls are written from the list's start on, and the list has places for all that
-- the queue can still report.
pub record Going (st es₀ ws es : List ℕ) (k : ℕ) : Type 0 where
  pub log : List Event
  pub written_so : es ≡ written es₀ 0 log
  pub counted : k ≡ length log
  pub good : Good ws st
  pub paid : length log + potential (model ws st) ≤ 2305

pub at_first : (st ws es : List ℕ) → Good ws st → Going st es ws es 0
unfolding written
at_first st ws es g = record { log = []; written_so = refl; counted = refl; good = g; paid = omega (arith, potential_fits (model ws st) g.well) }

-- The next fragment may be asked for.
pub payable : {st es₀ ws es : List ℕ} {k : ℕ} → event_words ≤ length es₀ → Going st es₀ ws es k → Payable ws st es k
payable {st} {es₀} h y = record {
  good = y.good;
  paid = omega (arith, y.paid, y.counted);
  places = omega (arith, h, written_length es₀ 0 y.log, ap length y.written_so);
}

-- A fragment's answer has the count of the events.
counted_in : (a : Answer) (k j : ℕ) (d : DataToSend) → produced_of a k ≡ produced.Fragment j d → j ≡ k
counted_in (refused n) k j d e = let z : ◌≡◌ {A = ℕ} 0 1 = cc in absurd (omega arith)
counted_in done k j d e = let z : ◌≡◌ {A = ℕ} 0 1 = cc in absurd (omega arith)
counted_in (number m) k j d e = let z : ◌≡◌ {A = ℕ} 0 1 = cc in absurd (omega arith)
counted_in (flag b) k j d e = let z : ◌≡◌ {A = ℕ} 0 1 = cc in absurd (omega arith)
counted_in (ids l) k j d e = let z : ◌≡◌ {A = ℕ} 0 1 = cc in absurd (omega arith)
counted_in (fragment f) k j d e = cc
counted_in nothing_waits k j d e = let z : ◌≡◌ {A = ℕ} 0 1 = cc in absurd (omega arith)
counted_in (filled bs n) k j d e = let z : ◌≡◌ {A = ℕ} 0 1 = cc in absurd (omega arith)

module _ (st es₀ : List ℕ) (time : ℕ) (he : event_words ≤ length es₀) (ht : time ≤ 4611686018427387903) where
  -- None of document 01's checks applies to a call of a filling.
  passed : (ws : List ℕ) (buffer size : ℕ) → Good ws st → (size ≡ 0 → ⊥) → size ≤ 65535 → size ≤ buffer → Passed (produce_checks (length st) 2305 buffer time size (model ws st))
  passed ws buffer size g z hs hb =
      let own : length st ≡ (model ws st).options.store_length = g.store_is ∙ ap (λ (o : Options). o.store_length) (sym (model_options ws st)) in (
        ap not (eq-eqb (length st) (model ws st).options.store_length own),
        (le-ltb 2305 2305 (omega arith), (le-ltb 4611686018427387903 time ht, (ap₂ ◌||◌ (le-ltb size 1 (omega (arith, z))) (le-ltb 262144 size (omega arith)), (le-ltb buffer size hb, tt)))),
      )

  -- One call after the events of earlier ones.
  call_goes : (ws part : List ℕ) (log : List Event) (size : ℕ) → Good ws st → length log + potential (model ws st) ≤ 2305 → (size ≡ 0 → ⊥) → size ≤ 65535 → size ≤ length part
      → (r : Produced) (us vs o : List ℕ) → produced_with r us vs o ≡ produced_after ws st (written es₀ 0 log) part time size (length log) → (j : ℕ) (d : DataToSend) → r ≡ produced.Fragment j d → Going st es₀ us vs j
  call_goes ws part log size g h z hs hp r us vs o ep j d e =
      let s : Step = produce (length st) 2305 (length part) time size (model ws st) in
      let x : Sends (after_events log s) st es₀ part (produced_after ws st (written es₀ 0 log) part time size (length log)) = after_sends ws st es₀ part 2305 time size log g he hp h (passed ws (length part) size g z hs hp) in
      let y : Sends (after_events log s) st es₀ part (produced_with r us vs o) = subst (Sends (after_events log s) st es₀ part) (sym ep) x in
      record {
        log = log ++ s.outcome.events;
        written_so = y.events;
        counted = counted_in s.outcome.answer (length (log ++ s.outcome.events)) j d (sym y.answer ∙ e);
        good = y.good;
        paid = omega (arith, produce_spends (length st) 2305 (length part) time size (model ws st) g.well, length-append log s.outcome.events, ap potential y.next, h);
      }

  -- A turn, with a fragment.
  pub turn_goes : (k : ChunkKind) (ws es b : List ℕ) (at i tsn size : ℕ) → Going st es₀ ws es i → (size ≡ 0 → ⊥) → header_size k + size ≤ 65535 → at + (header_size k + size) ≤ length b
      → (r : Produced) (us vs o : List ℕ) → produced_with r us vs o ≡ one_filled k st time ws es b at i tsn size → (j : ℕ) (d : DataToSend) → r ≡ produced.Fragment j d → Going st es₀ us vs j
  unfolding one_filled
  turn_goes k ws es b at i tsn size y z hs hp r us vs o ep j d e =
      let part : List ℕ = take size (drop (at + header_size k) b) in
      let long : length part ≡ size = length-take-le size (drop (at + header_size k) b) (omega (arith, length-drop (at + header_size k) b, hp)) in
      let p : ProducedWith = produced_after ws st es part time size i in
      let same : produced_with r us vs p.buffer ≡ p = ap (λ (f : ProducedWith). produced_with f.answer f.words f.events p.buffer) ep in
      call_goes ws part y.log size y.good y.paid z (omega arith) (omega (arith, long)) r us vs p.buffer
      (same ∙ ap₂ (λ (v : List ℕ) (n : ℕ). produced_after ws st v part time size n) y.written_so y.counted) j d e
