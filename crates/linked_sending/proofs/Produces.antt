-- The next fragment is the model's, refused or not. Assumes nothing.
use mathlib.Core.Path.{◌≡◌, refl, sym, ap, ◌∙◌, subst}
use mathlib.Core.Bool.{true, false}
use mathlib.Core.List.{List, []}
use mathlib.Core.Option.{Option, none, some, get_or}
use Prim.Native.Nat.{ℕ, suc, ◌≤◌, ◌<◌}
use native.Mathlib.Omega.{arith}
use borrow.Author.Tests.{lt-ltb, le-ltb, eq-eqb, ne_eqb}
use lib.Dec.{eqb}
use lib.ListN.{length}
use Rattle.queue_words.specs.Header.{options_at, totals_at}
use Rattle.queue_model.specs.Types.{Queue, Step, refuse}
use Rattle.queue_model.specs.Refusals.{Check, first_refusal, refused_or, checked}
use Rattle.queue_model.specs.Produce.{pass_over, produce, produce_checks}
use Rattle.queue_model.specs.Run as run
use Rattle.queue_model.specs.Streams.{waiting}
use Rattle.queue_model.proofs.Invariant.Events.{potential_fits}
use Rattle.payload_store.proofs.Cases.{by_index}
use Rattle.queue_sending.specs.Data.{ProducedWith, produced_with, refused_with}
use Rattle.queue_sending.specs.Produce.{produce_code, produce_next, pass_over_words, refusal, settled, settled_as}
use Rattle.queue_sending.specs.Produced.{Produced}
use Rattle.queue_sending.specs.Produced as produced
use Rattle.queue_sending.proofs.Passes.{produce_passes}
use Rattle.queue_streams.specs.Events.{event_words, places_in, written}
use Rattle.queue_state.specs.Model.{model}
use Rattle.queue_state.specs.Good.{Good}
use Rattle.queue_state.proofs.Singles.{model_options}
use Rattle.linked_sending.specs.Meaning.{Sends, ProduceMeets}
use Rattle.linked_sending.proofs.Passing.{Passes, passes, model_waits}
use Rattle.linked_sending.proofs.Numbers.{tells_of}
use Rattle.queue_words.proofs.Finds.{by_lt}

-- ---- what the model does

module _ (store places room time size : ℕ) (q : Queue) where
  abbrev call : run.Call
  call = run.produce store places room time size

  refuses : (n : ℕ) → first_refusal (produce_checks store places room time size q) ≡ some n → run.step call q ≡ refuse q n
  unfolding run.step produce checked refused_or
  refuses n e = rw e

  goes_on : first_refusal (produce_checks store places room time size q) ≡ none → run.step call q ≡ get_or (pass_over (suc (waiting q.streams)) time size q []) (refuse q 16)
  unfolding run.step produce checked refused_or
  goes_on e = rw e

-- ---- what the words do

pub settled_same : (ws es bs : List ℕ) (p : ProducedWith) → refusal p.answer ≡ false → settled ws es bs p ≡ p
settled_same ws es bs p e = go p.answer e
  where
    go : (r : Produced) → refusal r ≡ false → settled_as ws es bs p r ≡ p
    go (produced.Nothing k) f = refl
    go (produced.Fragment k d) f = refl
    go (produced.Refused code) f = let z : ◌≡◌ {A = ℕ} 0 1 = cc in absurd (omega arith)

module _ (ws st es bs : List ℕ) (time size : ℕ) (g : Good ws st) where
  abbrev q : Queue
  q = model ws st

  abbrev step : Step
  step = run.step (run.produce (length st) (places_in es) (length bs) time size) (model ws st)

  abbrev checks : List Check
  checks = produce_checks (length st) (places_in es) (length bs) time size (model ws st)

  abbrev code : ℕ
  code = produce_code ws (length st) (length es) (length bs) time size

  store_same : eqb (length st) (model ws st).options.store_length ≡ true
  store_same = eq-eqb (length st) (model ws st).options.store_length (g.store_is ∙ ap (λ o. o.store_length) (sym (model_options ws st)))

  few : (totals_at ws).waiting ≤ 1024
  few = omega (arith, g.well.messages_few, model_waits ws st g.shape)

  told : (n : ℕ) → Sends (refuse (model ws st) n) st es bs (refused_with n ws es bs)
  unfolding written
  told n = record { good = g; next = refl; answer = refl; events = refl; buffer = refl }

  -- a refusal
  refused : (n : ℕ) → 0 < n → first_refusal checks ≡ some n → code ≡ n → Sends step st es bs (produce_next ws st es bs time size)
  refused n h a b =
      let e : produce_next ws st es bs time size ≡ refused_with n ws es bs = produce_passes ws st es bs time size few ∙ rw (b, lt-ltb 0 n h) in
      let f : step ≡ refuse (model ws st) n = refuses (length st) (places_in es) (length bs) time size (model ws st) n a in
      subst (λ (s : Step). Sends s st es bs (produce_next ws st es bs time size)) (sym f)
      (subst (Sends (refuse (model ws st) n) st es bs) (sym e) (told n))

  -- no refusal
  accepted : event_words ≤ length es → size ≤ length bs → first_refusal checks ≡ none → code ≡ 0 → Sends step st es bs (produce_next ws st es bs time size)
  accepted he hb a b =
      let n : ℕ = (totals_at ws).waiting in
      let w : waiting (model ws st).streams ≡ (totals_at ws).waiting = model_waits ws st g.shape in
      let o : Passes st es bs (pass_over (suc n) time size (model ws st) []) (pass_over_words n ws st (written es 0 []) bs time size 0) = passes st es bs time size he hb n ws [] g (omega (arith, potential_fits (model ws st) g.well)) (omega arith) in
      let f : step ≡ o.step = goes_on (length st) (places_in es) (length bs) time size (model ws st) a ∙ ap (λ (x : Option Step). get_or x (refuse (model ws st) 16)) (ap (λ (k : ℕ). pass_over (suc k) time size (model ws st) []) w ∙ o.step_is) in
      let p : ProducedWith = pass_over_words n ws st (written es 0 []) bs time size 0 in
      let e : produce_next ws st es bs time size ≡ p = produce_passes ws st es bs time size few ∙ rw b (ap (λ (l : List ℕ). settled ws es bs (pass_over_words n ws st l bs time size 0)) (sym none_written) ∙ settled_same ws es bs p o.answered) in
      subst (λ (s : Step). Sends s st es bs (produce_next ws st es bs time size)) (sym f) (subst (Sends o.step st es bs) (sym e) o.sends)
    where
      none_written : written es 0 [] ≡ es
      none_written = unfold written in refl

  -- ---- the checks, in order

  same_store : eqb (options_at ws).store_length (length st) ≡ true
  same_store = eq-eqb (options_at ws).store_length (length st) (sym g.store_is)

  pub produce_link : Sends (run.step (run.produce (length st) (places_in es) (length bs) time size) (model ws st)) st es bs (produce_next ws st es bs time size)
  unfolding first_refusal produce_code
  produce_link = by_lt (length es) event_words
      (λ h. refused 3 (omega arith) (rw (store_same, lt-ltb (places_in es) 2305 (omega arith))) (rw (same_store, lt-ltb (length es) event_words h)))
      (λ h. by_lt 4611686018427387903 time
      (λ i. refused 4 (omega arith) (rw (store_same, le-ltb (places_in es) 2305 (omega arith), lt-ltb 4611686018427387903 time i)) (rw (same_store, le-ltb (length es) event_words h, lt-ltb 4611686018427387903 time i)))
      (λ i. by_index size 0
      (λ j. refused 9 (omega arith)
      (rw (store_same, le-ltb (places_in es) 2305 (omega arith), le-ltb 4611686018427387903 time i, lt-ltb size 1 (omega arith)))
      (rw (same_store, le-ltb (length es) event_words h, le-ltb 4611686018427387903 time i, eq-eqb size 0 j)))
      (λ j. by_lt 262144 size
      (λ k. refused 9 (omega arith)
      (rw (store_same, le-ltb (places_in es) 2305 (omega arith), le-ltb 4611686018427387903 time i, le-ltb size 1 (omega arith), lt-ltb 262144 size k))
      (rw (same_store, le-ltb (length es) event_words h, le-ltb 4611686018427387903 time i, ne_eqb size 0 j, lt-ltb 262144 size k)))
      (λ k. by_lt (length bs) size
      (λ l. refused 10 (omega arith)
      (rw (store_same, le-ltb (places_in es) 2305 (omega arith), le-ltb 4611686018427387903 time i, le-ltb size 1 (omega arith), le-ltb 262144 size k, lt-ltb (length bs) size l))
      (rw (same_store, le-ltb (length es) event_words h, le-ltb 4611686018427387903 time i, ne_eqb size 0 j, le-ltb 262144 size k, lt-ltb (length bs) size l)))
      (λ l. accepted h l
      (rw (store_same, le-ltb (places_in es) 2305 (omega arith), le-ltb 4611686018427387903 time i, le-ltb size 1 (omega arith), le-ltb 262144 size k, le-ltb (length bs) size l))
      (rw (same_store, le-ltb (length es) event_words h, le-ltb 4611686018427387903 time i, ne_eqb size 0 j, le-ltb 262144 size k, le-ltb (length bs) size l)))))))

-- What the contract asks.
pub produce_meets : (ws st es bs : List ℕ) (time size : ℕ) (r : Produced) (ws' es' bs' : List ℕ) → produced_with r ws' es' bs' ≡ produce_next ws st es bs time size → ProduceMeets ws st es bs time size r ws' es' bs'
produce_meets ws st es bs time size r ws' es' bs' e = record { words = e; model = sends; tells = λ g. tells_of (sends g) }
  where
    sends : Good ws st → Sends (run.step (run.produce (length st) (places_in es) (length bs) time size) (model ws st)) st es bs (produced_with r ws' es' bs')
    sends g = subst (Sends (run.step (run.produce (length st) (places_in es) (length bs) time size) (model ws st)) st es bs) (sym e) (produce_link ws st es bs time size g)
