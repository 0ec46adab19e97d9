-- Two states that stand for one queue: every call shows the same on both, and leaves two such states. Assumes nothing.
use mathlib.Core.Path.{◌≡◌, refl, sym, ap₂, ◌∙◌}
use mathlib.Core.List.{List, [], ◌∷◌}
use Prim.Native.Nat.{ℕ}
use lib.ListN.{length}
use Rattle.queue_model.specs.Types as plain
use Rattle.queue_model.specs.Run as run
use Rattle.queue_runs.specs.Calls.{Call, call_of, Typed, Shown}
use Rattle.queue_runs.specs.Run as runs
use Rattle.queue_runs.specs.Run.{State, step}
use Rattle.queue_runs.specs.Meaning.{queue_of, GoodState, AllTyped, shown_of}
use Rattle.queue_runs.proofs.Steps.{step_link, meant}

pub record Same (s t : State) : Type 0 where
  pub good : GoodState s
  pub good' : GoodState t
  pub queues : queue_of s ≡ queue_of t
  pub stores : length s.store ≡ length t.store

pub same_self : (s : State) → GoodState s → Same s s
same_self s g = record { good = g; good' = g; queues = refl; stores = refl }

pub same_back : {s t : State} → Same s t → Same t s
same_back h = record { good = h.good'; good' = h.good; queues = sym h.queues; stores = sym h.stores }

-- The model's step is one.
meant_same : (c : Call) (s t : State) → Same s t → meant c s ≡ meant c t
meant_same c s t h = ap₂ (λ (n : ℕ) (q : plain.Queue). run.step (call_of n c) q) h.stores h.queues

pub shows_same : (c : Call) (s t : State) → Same s t → Typed c → (step c s).shows ≡ (step c t).shows
shows_same c s t h u = (step_link c s h.good u).shows_are ∙ (λ i. shown_of c (meant_same c s t h i).outcome) ∙ sym (step_link c t h.good' u).shows_are

pub next_same : (c : Call) (s t : State) → Same s t → Typed c → Same (step c s).next (step c t).next
next_same c s t h u =
    let a = step_link c s h.good u in
    let b = step_link c t h.good' u in
    record {
      good = a.good;
      good' = b.good;
      queues = a.next_is ∙ (λ i. (meant_same c s t h i).next) ∙ sym b.next_is;
      stores = a.same_store ∙ h.stores ∙ sym b.same_store;
    }

-- ------------------------------------------------------------------ lists of calls

pub run_same : (cs : List Call) (s t : State) → Same s t → AllTyped cs → runs.run cs s ≡ runs.run cs t
unfolding runs.run
run_same [] s t h u = refl
run_same (c ∷ cs) s t h u = ap₂ (λ (o : Shown) (os : List Shown). o ∷ os) (shows_same c s t h u.0) (run_same cs (step c s).next (step c t).next (next_same c s t h u.0) u.1)

pub after_same : (cs : List Call) (s t : State) → Same s t → AllTyped cs → Same (runs.after cs s) (runs.after cs t)
unfolding runs.after
after_same [] s t h u = h
after_same (c ∷ cs) s t h u = after_same cs (step c s).next (step c t).next (next_same c s t h u.0) u.1
