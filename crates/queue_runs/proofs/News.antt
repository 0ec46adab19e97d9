-- What an accepted creation leaves is a new queue, and from it no call ever shows 16. Assumes nothing.
use mathlib.Core.Path.{◌≡◌, refl, sym, ap, subst, ◌∙◌}
use mathlib.Core.List.{List, [], ◌∷◌}
use mathlib.Core.Option.{Option, none, some}
use Prim.Native.Nat.{ℕ}
use native.Mathlib.Omega.{arith}
use lib.ListN.{length}
use Rattle.queue_model.specs.Types as plain
use Rattle.queue_model.specs.Streams.{new_queue}
use Rattle.queue_model.specs.Refusals.{new, not_created, create_refusal, creation_or, create}
use Rattle.queue_model.specs.Demands.{Created, Reachable, created, called}
use Rattle.queue_streams.specs.Call.{Accepted, Refused}
use Rattle.linked_adding.specs.Create.{answer_of}
use Rattle.linked_adding.proofs.Creates.{create_link}
use Rattle.queue_runs.specs.Calls.{Call, call_of}
use Rattle.queue_runs.specs.Run.{State, step}
use Rattle.queue_runs.specs.Run as runs
use Rattle.queue_runs.specs.Meaning.{queue_of, GoodState, AllTyped}
use Rattle.queue_runs.specs.Creation.{Arguments, options_with, new_state, Creates}
use Rattle.queue_runs.proofs.Steps.{step_link, typed_call, store_small}

-- ------------------------------------------------------------------ creation

-- The words stand for the model's new queue.
pub record New (o : plain.Options) (s : State) : Type 0 where
  pub good : GoodState s
  pub created : Created o
  pub queue_is : queue_of s ≡ new_queue o

create_new : (o : plain.Options) → create_refusal o ≡ none → create o ≡ new (new_queue o)
unfolding create creation_or
create_new o e = ap (λ x. creation_or x (new_queue o)) e

create_not : (o : plain.Options) (n : ℕ) → create_refusal o ≡ some n → create o ≡ not_created n
unfolding create creation_or
create_not o n e = ap (λ x. creation_or x (new_queue o)) e

pub new_link : (a : Arguments) (s : State) → Creates a s → New (options_with a (length s.store)) (new_state a s)
new_link a s h = go (create_refusal o) refl
  where
    o : plain.Options
    o = options_with a (length s.store)

    go : (x : Option ℕ) → create_refusal o ≡ x → New o (new_state a s)
    go none e =
        let l = create_link s.words s.store (length s.store) a.limit a.priority a.threshold a.total a.handover a.rule h.long refl h.priority_fits h.threshold_fits h.total_fits in
        let n = create_new o e in
        record {
          good = l.good (new_queue o) n;
          created = record { accepted = e; default_priority = h.priority_fits; default_threshold = h.threshold_fits; total_threshold = h.total_fits };
          queue_is = l.stands (new_queue o) n;
        }
    go (some n) e =
        let l = create_link s.words s.store (length s.store) a.limit a.priority a.threshold a.total a.handover a.rule h.long refl h.priority_fits h.threshold_fits h.total_fits in
        let r : Accepted 0 ≡ Refused n = sym h.accepted ∙ l.answer ∙ ap answer_of (create_not o n e) in
        let z : ◌≡◌ {A = ℕ} 0 1 = cc in absurd (omega arith)

-- ------------------------------------------------------------------ the model's reachable queues

-- Every call leads from a reachable queue to a reachable one.
reach : (o : plain.Options) (cs : List Call) (s : State) → GoodState s → AllTyped cs → Reachable o (queue_of s) → Reachable o (queue_of (runs.after cs s))
unfolding runs.after
reach o [] s g t r = r
reach o (c ∷ cs) s g t r =
    let h = step_link c s g t.0 in
    reach o cs (step c s).next h.good t.1 (subst (Reachable o) (sym h.next_is) (called r (call_of (length s.store) c) (typed_call (length s.store) c (store_small s g) t.0)))

pub reached : (a : Arguments) (s : State) (cs : List Call) → Creates a s → AllTyped cs → Reachable (options_with a (length s.store)) (queue_of (runs.after cs (new_state a s)))
reached a s cs h t =
    let n = new_link a s h in
    let o : plain.Options = options_with a (length s.store) in
    reach o cs (new_state a s) n.good t (subst (Reachable o) (sym n.queue_is) (created n.created))
