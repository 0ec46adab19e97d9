-- One call for the next fragment after the events of earlier calls, as a filling makes it (document 02, 5/13), is the model's next fragment. Assumes nothing.
use mathlib.Core.Path.{◌≡◌, sym, ap, ◌∙◌, subst}
use mathlib.Core.List.{List, [], append-nil}
use mathlib.Core.Option.{Option, none, some, get_or}
use Prim.Native.Nat.{ℕ, suc, ◌+◌, ◌≤◌}
use native.Mathlib.Omega.{arith}
use lib.ListN.{length}
use Rattle.queue_words.specs.Header.{totals_at}
use Rattle.queue_model.specs.Types.{Queue, Event, Step, refuse}
use Rattle.queue_model.specs.Refusals.{checked}
use Rattle.queue_model.specs.Produce.{pass_over, produce, produce_checks}
use Rattle.queue_model.specs.Streams.{waiting}
use Rattle.queue_model.proofs.Checks.{Passed, checked_past}
use Rattle.queue_model.proofs.Invariant.Events.{potential}
use Rattle.queue_model.proofs.Fill.Refusals.{after_events, maybe_after, pass_prefix}
use Rattle.queue_sending.specs.Data.{ProducedWith}
use Rattle.queue_sending.specs.Produce.{produced_after, pass_over_words}
use Rattle.queue_sending.proofs.Passes.{after_passes}
use Rattle.queue_streams.specs.Events.{event_words, written}
use Rattle.queue_state.specs.Model.{model}
use Rattle.queue_state.specs.Good.{Good}
use Rattle.linked_sending.specs.Meaning.{Sends}
use Rattle.linked_sending.proofs.Passing.{Passes, passes, model_waits}
use Rattle.linked_sending.proofs.Produces.{settled_same}

-- From good words: passing over after the events vs, where what can still be fired fits the list.
after_link : (ws st es bs : List ℕ) (time size : ℕ) (vs : List Event) → Good ws st → event_words ≤ length es → size ≤ length bs → length vs + potential (model ws st) ≤ 2305
    → Passes st es bs (pass_over (suc (waiting (model ws st).streams)) time size (model ws st) vs) (produced_after ws st (written es 0 vs) bs time size (length vs))
after_link ws st es bs time size vs g he hb h =
    let n : ℕ = (totals_at ws).waiting in
    let w : waiting (model ws st).streams ≡ (totals_at ws).waiting = model_waits ws st g.shape in
    let few : (totals_at ws).waiting ≤ 1024 = omega (arith, g.well.messages_few, w) in
    let o : Passes st es bs (pass_over (suc n) time size (model ws st) vs) (pass_over_words n ws st (written es 0 vs) bs time size (length vs)) = passes st es bs time size he hb n ws vs g h (omega arith) in
    let p : ProducedWith = pass_over_words n ws st (written es 0 vs) bs time size (length vs) in
    let e : produced_after ws st (written es 0 vs) bs time size (length vs) ≡ p = after_passes ws st (written es 0 vs) bs time size (length vs) (omega (arith, h)) few ∙ settled_same ws (written es 0 vs) bs p o.answered in
    subst (λ (k : ℕ). Passes st es bs (pass_over (suc k) time size (model ws st) vs) (produced_after ws st (written es 0 vs) bs time size (length vs))) (sym w)
    (subst (Passes st es bs (pass_over (suc n) time size (model ws st) vs)) (sym e) o)

-- A step after the events vs is the step with vs before its events.
step_after : (vs : List Event) (q : Queue) (x : Option Step) (t : Step) → maybe_after vs x ≡ some t → t ≡ after_events vs (get_or x (refuse q 16))
step_after vs q none t e = let z : ◌≡◌ {A = ℕ} 0 1 = cc in absurd (omega arith)
step_after vs q (some s) t e = cc

-- The model's next fragment, with vs before its events.
pub after_sends : (ws st es bs : List ℕ) (places time size : ℕ) (vs : List Event) → Good ws st → event_words ≤ length es → size ≤ length bs → length vs + potential (model ws st) ≤ 2305
    → Passed (produce_checks (length st) places (length bs) time size (model ws st))
    → Sends (after_events vs (produce (length st) places (length bs) time size (model ws st))) st es bs (produced_after ws st (written es 0 vs) bs time size (length vs))
unfolding produce
after_sends ws st es bs places time size vs g he hb h p =
    let o = after_link ws st es bs time size vs g he hb h in
    let q : Queue = model ws st in
    let x : Option Step = pass_over (suc (waiting q.streams)) time size q [] in
    let a : pass_over (suc (waiting q.streams)) time size q vs ≡ maybe_after vs x = ap (pass_over (suc (waiting q.streams)) time size q) (sym (append-nil vs)) ∙ pass_prefix (suc (waiting q.streams)) time size q vs [] in
    let b : o.step ≡ after_events vs (get_or x (refuse q 16)) = step_after vs q x o.step (sym a ∙ o.step_is) in
    let c : checked (produce_checks (length st) places (length bs) time size q) q (get_or x (refuse q 16)) ≡ get_or x (refuse q 16) = checked_past (produce_checks (length st) places (length bs) time size q) q (get_or x (refuse q 16)) p in
    subst (λ (s : Step). Sends s st es bs (produced_after ws st (written es 0 vs) bs time size (length vs))) (b ∙ ap (after_events vs) (sym c)) o.sends
