-- What the calls of a job show is what the model's show. Assumes nothing.
use mathlib.Core.Path.{◌≡◌, refl, sym, ap, ap₂}
use mathlib.Core.Logic.{◌↔◌}
use mathlib.Core.Bool.{Bool, false, ◌||◌}
use mathlib.Core.List.{List, [], ◌∷◌, map}
use mathlib.Core.Option.{none, some}
use Prim.Native.Nat.{ℕ}
use native.Mathlib.Omega.{arith}
use lib.ListN.{length}
use Rattle.queue_model.specs.Types as plain
use Rattle.queue_model.specs.Types.{Queue, Outcome}
use Rattle.queue_model.specs.Run as run
use Rattle.queue_streams.specs.Call as call
use Rattle.linked_sending.specs.Meaning.{produced_of}
use Rattle.queue_runs.specs.Calls.{Call, call_of, set_priority, set_interleaving, called}
use Rattle.queue_runs.specs.Meaning.{quiet_of, shown_of, calls_of, all_shown_of}
use Rattle.queue_runs.proofs.Forms.{Quiet, quiet_refused, quiet_done, Sent, sent_refused, sent_nothing, sent_fragment, form_of}
use Rattle.queue_runs.proofs.Tells.{id_is}
use Rattle.priority_plan.specs.Works.{All}
use Rattle.priority_plan.specs.Jobs as model
use Rattle.priority_plan.specs.Turns as turns
use Rattle.queue_plans.specs.Jobs.{Adding, adding_call, asking_call, Later, ask, more, later_call, Accepted}
use Rattle.queue_plans.specs.FirstFragments.{stream_sent, nothing_sent, says_nothing, stream_of, streams_shown, ends}

-- ------------------------------------------------------------------ settings and messages

-- The calls that are accepted or refused, and no more.
pub data Plain : Call → Type 0 where
  adds : (a : Adding) → Plain (adding_call a)
  sets : (id p : ℕ) → Plain (set_priority id p)
  switches : (b : Bool) → Plain (set_interleaving b)

quiet_accepted : (o : Outcome) → Quiet o → ((quiet_of o).answer ≡ called (call.Accepted 0)) ↔ (o.answer ≡ plain.done)
quiet_accepted o (quiet_refused n) = (λ e. (let z : ◌≡◌ {A = ℕ} 0 1 = cc in absurd (omega arith)), λ e. (let z : ◌≡◌ {A = ℕ} 0 1 = cc in absurd (omega arith)))
quiet_accepted o quiet_done = (λ e. refl, λ e. refl)

plain_accepted : (len : ℕ) (c : Call) (q : Queue) → Plain c → ((shown_of c (run.step (call_of len c) q).outcome).answer ≡ called (call.Accepted 0)) ↔ ((run.step (call_of len c) q).outcome.answer ≡ plain.done)
plain_accepted len c q (adds a) = quiet_accepted (run.step (call_of len (adding_call a)) q).outcome (form_of (call_of len (adding_call a)) q)
plain_accepted len c q (sets id p) = quiet_accepted (run.step (run.set_priority id p) q).outcome (form_of (run.set_priority id p) q)
plain_accepted len c q (switches b) = quiet_accepted (run.step (run.set_interleaving b) q).outcome (form_of (run.set_interleaving b) q)

-- They are accepted exactly where the model's are.
pub accepted_link : (len : ℕ) (cs : List Call) (q : Queue) → All Plain cs → Accepted (all_shown_of cs (run.run (calls_of len cs) q)) ↔ model.Accepted (run.run (calls_of len cs) q)
unfolding run.run
accepted_link len [] q p = (λ a. a, λ a. a)
accepted_link len (c ∷ cs) q p =
    let o = plain_accepted len c q p.0 in
    let r = accepted_link len cs (run.step (call_of len c) q).next p.1 in
    (λ a. (o.0 a.0, r.0 a.1), λ a. (o.1 a.0, r.1 a.1))

-- ------------------------------------------------------------------ next fragments

sent_stream : (o : Outcome) → Sent o → stream_sent (produced_of o.answer (length o.events)) ≡ turns.shown o.answer
sent_stream o (sent_refused n) = refl
sent_stream o (sent_nothing es) = refl
sent_stream o (sent_fragment f es) = ap (λ (k : ℕ). some k) (id_is f.unordered f.stream_id)

sent_nothing_link : (o : Outcome) → Sent o → nothing_sent (produced_of o.answer (length o.events)) ≡ turns.says_nothing o.answer
sent_nothing_link o (sent_refused n) = refl
sent_nothing_link o (sent_nothing es) = refl
sent_nothing_link o (sent_fragment f es) = refl

quiet_stream : (o : Outcome) → Quiet o → turns.shown o.answer ≡ none
quiet_stream o (quiet_refused n) = refl
quiet_stream o quiet_done = refl

quiet_says : (o : Outcome) → Quiet o → turns.says_nothing o.answer ≡ false
quiet_says o (quiet_refused n) = refl
quiet_says o quiet_done = refl

-- A later call shows the stream that the model's shows, and says that nothing waits where the model's says it.
later_stream : (len : ℕ) (x : Later) (q : Queue) → stream_of (shown_of (later_call x) (run.step (call_of len (later_call x)) q).outcome).answer ≡ turns.shown (run.step (call_of len (later_call x)) q).outcome.answer
later_stream len (ask x) q = sent_stream (run.step (call_of len (asking_call x)) q).outcome (form_of (call_of len (asking_call x)) q)
later_stream len (more a) q = sym (quiet_stream (run.step (call_of len (adding_call a)) q).outcome (form_of (call_of len (adding_call a)) q))

later_says : (len : ℕ) (x : Later) (q : Queue) → says_nothing (shown_of (later_call x) (run.step (call_of len (later_call x)) q).outcome).answer ≡ turns.says_nothing (run.step (call_of len (later_call x)) q).outcome.answer
later_says len (ask x) q = sent_nothing_link (run.step (call_of len (asking_call x)) q).outcome (form_of (call_of len (asking_call x)) q)
later_says len (more a) q = sym (quiet_says (run.step (call_of len (adding_call a)) q).outcome (form_of (call_of len (adding_call a)) q))

-- ------------------------------------------------------------------ runs

abbrev pub outcomes : ℕ → List Later → Queue → List Outcome
outcomes len xs q = run.run (calls_of len (map later_call xs)) q

pub streams_link : (len : ℕ) (xs : List Later) (q : Queue) → streams_shown (all_shown_of (map later_call xs) (outcomes len xs q)) ≡ turns.streams_shown (outcomes len xs q)
unfolding run.run streams_shown turns.streams_shown
streams_link len [] q = refl
streams_link len (x ∷ xs) q = ap₂ turns.and_shown (later_stream len x q) (streams_link len xs (run.step (call_of len (later_call x)) q).next)

pub ends_link : (len : ℕ) (xs : List Later) (q : Queue) → ends (all_shown_of (map later_call xs) (outcomes len xs q)) ≡ turns.ends (outcomes len xs q)
unfolding run.run ends turns.ends
ends_link len [] q = refl
ends_link len (x ∷ xs) q = ap₂ ◌||◌ (later_says len x q) (ends_link len xs (run.step (call_of len (later_call x)) q).next)
