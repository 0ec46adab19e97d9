-- Fair turns (request 11/13, second half) on the code. Assumes nothing.
use mathlib.Core.Path.{◌≡◌, refl, sym, ap, ap₂, ◌∙◌, subst}
use mathlib.Core.Bool.{true}
use mathlib.Core.List.{List, [], ◌∷◌, ◌++◌}
use Prim.Native.Nat.{ℕ, ◌+◌, ◌<◌}
use native.Mathlib.Omega.{arith}
use lib.ListN.{length}
use Rattle.queue_model.specs.Types as plain
use Rattle.queue_model.specs.Types.{Queue, Outcome, weighted}
use Rattle.queue_model.specs.Scheduler.{cost}
use Rattle.queue_model.specs.Questions.{priority_of}
use Rattle.queue_model.specs.Run as run
use Rattle.queue_model.specs.Waiting.{is_waiting}
use Rattle.queue_model.specs.FairTurns as model
use Rattle.queue_model.proofs.Invariant.Sixteen.{reachable_options}
use Rattle.queue_model.proofs.FairTurns.Theorem as theorem
use Rattle.queue_model.proofs.FairTurns.Seen.{BothOpen, open_on, both_wait}
use Rattle.queue_streams.specs.Events.{places_in}
use Rattle.queue_streams.specs.Number as number_answer
use Rattle.queue_questions.specs.Questions.{priority_of_words, amount_of_words}
use Rattle.queue_state.specs.Promise.{number_of}
use Rattle.queue_state.proofs.Singles.{model_options, model_interleaving}
use Rattle.linked_streams.proofs.Asks.{priority_asked, empty_asked}
use Rattle.linked_adding.specs.Message.{message_of_words}
use Rattle.queue_runs.specs.Calls.{Call, call_of, Shown}
use Rattle.queue_runs.specs.Run as runs
use Rattle.queue_runs.specs.Run.{State, step}
use Rattle.queue_runs.specs.Meaning.{queue_of, GoodState, AllTyped, calls_of}
use Rattle.queue_runs.specs.Creation.{options_with}
use Rattle.queue_runs.specs.FairTurns.{Allowed, adds, sends, Turn, Turns, AlwaysWait, AlwaysAbove, charge, charged, Request11Turns, Request11Seen}
use Rattle.queue_runs.specs.Account.{value_of}
use Rattle.queue_runs.proofs.Steps.{step_link, typed_call, store_small, meant}
use Rattle.queue_runs.proofs.Runs.{run_link}
use Rattle.queue_runs.proofs.Forms.{Quiet, quiet_refused, quiet_done, form_of}
use Rattle.queue_runs.proofs.Demand3.{stands}
use Rattle.queue_runs.proofs.Account.{sent_handed, value_is}

-- ------------------------------------------------------------------ one call

-- An allowed call is the model's allowed call.
allowed_link : (s : State) (c : Call) → Allowed s c → model.Allowed (queue_of s) (call_of (length s.store) c)
allowed_link s c (adds time m payload) = model.adds (length s.store) time (message_of_words m payload)
allowed_link s c (sends es bs time e) =
    subst (λ (n : ℕ). model.Allowed (queue_of s) (run.produce (length s.store) (places_in es) (length bs) time n)) (ap (λ (o : plain.Options). o.payload_limit) (model_options s.words s.store))
    (model.sends (length s.store) (places_in es) (length bs) time e)

turn_link : (c : Call) (s : State) → GoodState s → Turn c s → model.Turn (call_of (length s.store) c) (queue_of s)
turn_link c s g t = record { typed = typed_call (length s.store) c (store_small s g) t.typed; allowed = allowed_link s c t.allowed; below = t.below }

-- What it charges is what the model's charges.
quiet_charge : (p k : ℕ) (o : Outcome) → Quiet o → model.charge p k o.answer ≡ cost (weighted p) 0
quiet_charge p k o (quiet_refused n) = refl
quiet_charge p k o quiet_done = refl

charge_allowed : (p k : ℕ) (s : State) (c : Call) → GoodState s → Turn c s → Allowed s c → charge p k (step c s).shows.answer ≡ model.charge p k (meant c s).outcome.answer
charge_allowed p k s c g t (adds time m payload) =
    ap (λ (x : Shown). charge p k x.answer) (step_link c s g t.typed).shows_are ∙ sym (quiet_charge p k (meant c s).outcome (form_of (run.add (length s.store) time (message_of_words m payload)) (queue_of s)))
charge_allowed p k s c g t (sends es bs time e) =
    ap (λ (x : Shown). charge p k x.answer) (step_link c s g t.typed).shows_are ∙ ap (cost (weighted p)) (sent_handed k (meant c s).outcome.answer (length (meant c s).outcome.events))

-- ------------------------------------------------------------------ lists of calls

all_typed_turns : (cs : List Call) (s : State) → Turns cs s → AllTyped cs
all_typed_turns [] s t = tt
all_typed_turns (c ∷ cs) s t = (t.0.typed, all_typed_turns cs (step c s).next t.1)

-- A store keeps its length, so the calls after a step are the same calls of the model.
same_calls : (c : Call) (cs : List Call) (s : State) → GoodState s → Turn c s → calls_of (length (step c s).next.store) cs ≡ calls_of (length s.store) cs
same_calls c cs s g t = ap (λ (n : ℕ). calls_of n cs) (step_link c s g t.typed).same_store

turns_link : (cs : List Call) (s : State) → GoodState s → Turns cs s → model.Turns (calls_of (length s.store) cs) (queue_of s)
turns_link [] s g t = tt
turns_link (c ∷ cs) s g t =
    let h = step_link c s g t.0.typed in
    (turn_link c s g t.0, subst (λ (q : Queue). model.Turns (calls_of (length s.store) cs) q) h.next_is (subst (λ (ms : List run.Call). model.Turns ms (queue_of (step c s).next)) (same_calls c cs s g t.0) (turns_link cs (step c s).next h.good t.1)))

waits_link : (j k : ℕ) (cs : List Call) (s : State) → GoodState s → Turns cs s → AlwaysWait j k cs s → model.AlwaysWait j k (calls_of (length s.store) cs) (queue_of s)
waits_link j k [] s g t a = a
waits_link j k (c ∷ cs) s g t a =
    let h = step_link c s g t.0.typed in
    (a.0, subst (λ (q : Queue). model.AlwaysWait j k (calls_of (length s.store) cs) q) h.next_is (subst (λ (ms : List run.Call). model.AlwaysWait j k ms (queue_of (step c s).next)) (same_calls c cs s g t.0) (waits_link j k cs (step c s).next h.good t.1 a.1)))

charged_link : (p k : ℕ) (cs : List Call) (s : State) → GoodState s → Turns cs s → charged p k (runs.run cs s) ≡ model.charged p k (run.run (calls_of (length s.store) cs) (queue_of s))
unfolding charged model.charged runs.run run.run
charged_link p k [] s g t = refl
charged_link p k (c ∷ cs) s g t =
    let h = step_link c s g t.0.typed in
    ap₂ ◌+◌ (charge_allowed p k s c g t.0 t.0.allowed)
    (charged_link p k cs (step c s).next h.good t.1 ∙ ap₂ (λ (ms : List run.Call) (q : Queue). model.charged p k (run.run ms q)) (same_calls c cs s g t.0) h.next_is)

calls_join : (len : ℕ) (cs ds : List Call) → calls_of len (cs ++ ds) ≡ calls_of len cs ++ calls_of len ds
calls_join len [] ds = refl
calls_join len (c ∷ cs) ds = ap (λ (ms : List run.Call). call_of len c ∷ ms) (calls_join len cs ds)

turns_before : (cs ds : List Call) (s : State) → Turns (cs ++ ds) s → Turns cs s
turns_before [] ds s t = tt
turns_before (c ∷ cs) ds s t = (t.0, turns_before cs ds (step c s).next t.1)

turns_after : (cs ds : List Call) (s : State) → Turns (cs ++ ds) s → Turns ds (runs.after cs s)
unfolding runs.after
turns_after [] ds s t = t
turns_after (c ∷ cs) ds s t = turns_after cs ds (step c s).next t.1

-- ------------------------------------------------------------------ the theorem

-- The priority that the question answers is the model's.
priority_answer : (k : ℕ) (q : Queue) → number_of (run.step (run.ask_priority k) q).outcome.answer ≡ number_answer.Value (priority_of q k)
unfolding run.step
priority_answer k q = refl

priority_is : (s : State) (k p : ℕ) → GoodState s → priority_of_words s.words k ≡ number_answer.Value p → priority_of (queue_of s) k ≡ p
priority_is s k p g e =
    let x : number_answer.Value (priority_of (queue_of s) k) ≡ number_answer.Value p = sym (priority_asked s.words s.store g k ∙ priority_answer k (queue_of s)) ∙ e in cc

pub request11_turns : Request11Turns
unfolding Request11Turns model.Request11Turns
request11_turns a len s before during j k p r c t w =
    let n = stands a len s c.reached in
    let g = n.good in
    let l : ℕ = length s.store in
    let o : plain.Options = options_with a len in
    let b = run_link before s g (all_typed_turns before s (turns_before before during s t)) in
    let x : State = runs.after before s in
    let u : Turns during x = turns_after before during s t in
    let ms : List run.Call = calls_of l before in
    let ns : List run.Call = calls_of l during in
    let qx : queue_of x ≡ run.after ms (queue_of s) = b.next_is in
    let same : calls_of (length x.store) during ≡ ns = ap (λ (y : ℕ). calls_of y during) b.same_store in
    let mt : model.Turns (ms ++ ns) (queue_of s) = subst (λ (y : List run.Call). model.Turns y (queue_of s)) (calls_join l before during) (turns_link (before ++ during) s g t) in
    let mw : model.AlwaysWait j k ns (run.after ms (queue_of s)) = subst (λ (q : Queue). model.AlwaysWait j k ns q) qx (subst (λ (y : List run.Call). model.AlwaysWait j k y (queue_of x)) same (waits_link j k during x b.good u w)) in
    let starts : model.Starts o (queue_of s) = record { reachable = n.reachable; empty = sym (empty_asked s.words s.store) ∙ c.empty; interleaved = model_interleaving s.words s.store ∙ c.interleaved } in
    let m = theorem.request11_turns o (queue_of s) ms ns j k starts mt mw in
    let pj : priority_of (queue_of s) j ≡ p = priority_is s j p g c.first_priority in
    let pk : priority_of (queue_of s) k ≡ r = priority_is s k r g c.second_priority in
    let lim : (queue_of s).options.payload_limit ≡ a.limit = ap (λ (y : plain.Options). y.payload_limit) (reachable_options n.reachable) in
    let fj : cost (weighted (priority_of (queue_of s) j)) (queue_of s).options.payload_limit ≡ cost (weighted p) a.limit = ap₂ (λ (y z : ℕ). cost (weighted y) z) pj lim in
    let fk : cost (weighted (priority_of (queue_of s) k)) (queue_of s).options.payload_limit ≡ cost (weighted r) a.limit = ap₂ (λ (y z : ℕ). cost (weighted y) z) pk lim in
    let runs_same : run.run (calls_of (length x.store) during) (queue_of x) ≡ run.run ns (run.after ms (queue_of s)) = ap₂ run.run same qx in
    let cj : charged p j (runs.run during x) ≡ model.charged (priority_of (queue_of s) j) j (run.run ns (run.after ms (queue_of s))) =
    charged_link p j during x b.good u ∙ ap₂ (λ (y : ℕ) (z : List Outcome). model.charged y j z) (sym pj) runs_same in
    let ck : charged r k (runs.run during x) ≡ model.charged (priority_of (queue_of s) k) k (run.run ns (run.after ms (queue_of s))) =
    charged_link r k during x b.good u ∙ ap₂ (λ (y : ℕ) (z : List Outcome). model.charged y k z) (sym pk) runs_same in
    let m₁ = m.first in let m₂ = m.second in
    record { first = omega arith; second = omega arith }

-- ------------------------------------------------------------------ by what a host sees

open_step : (o : plain.Options) (j k : ℕ) (c : Call) (s : State) → GoodState s → Turn c s → BothOpen o j k (queue_of s) → BothOpen o j k (queue_of (step c s).next)
open_step o j k c s g t b = subst (BothOpen o j k) (sym (step_link c s g t.typed).next_is) (open_on o j k (call_of (length s.store) c) (queue_of s) b (turn_link c s g t))

open_after : (o : plain.Options) (j k : ℕ) (cs : List Call) (s : State) → GoodState s → Turns cs s → BothOpen o j k (queue_of s) → BothOpen o j k (queue_of (runs.after cs s))
unfolding runs.after
open_after o j k [] s g t b = b
open_after o j k (c ∷ cs) s g t b = open_after o j k cs (step c s).next (step_link c s g t.0.typed).good t.1 (open_step o j k c s g t.0 b)

above_wait : (o : plain.Options) (j k : ℕ) (s : State) → GoodState s → BothOpen o j k (queue_of s) → (0 < value_of (amount_of_words s.words j)) × (0 < value_of (amount_of_words s.words k))
    → (is_waiting j (queue_of s) ≡ true) × (is_waiting k (queue_of s) ≡ true)
above_wait o j k s g b l = both_wait o j k (queue_of s) b (subst (λ (n : ℕ). 0 < n) (value_is s j g) l.0, subst (λ (n : ℕ). 0 < n) (value_is s k g) l.1)

always_wait : (o : plain.Options) (j k : ℕ) (cs : List Call) (s : State) → GoodState s → BothOpen o j k (queue_of s) → Turns cs s → AlwaysAbove j k cs s → AlwaysWait j k cs s
always_wait o j k [] s g b t l = tt
always_wait o j k (c ∷ cs) s g b t l = (above_wait o j k s g b l.0, always_wait o j k cs (step c s).next (step_link c s g t.0.typed).good (open_step o j k c s g t.0 b) t.1 l.1)

pub request11_seen : Request11Seen
unfolding Request11Seen Request11Turns
request11_seen a len s before during j k p r c x y t l =
    let n = stands a len s c.reached in
    let g = n.good in
    let o : plain.Options = options_with a len in
    let u : Turns before s = turns_before before during s t in
    let b = open_after o j k before s g u (record { reached = n.reachable; first_open = x; second_open = y }) in
    request11_turns a len s before during j k p r c t (always_wait o j k during (runs.after before s) (run_link before s g (all_typed_turns before s u)).good b (turns_after before during s t) l)
