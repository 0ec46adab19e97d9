-- Every list of calls is the model's. Assumes nothing.
use mathlib.Core.Path.{◌≡◌, refl, ap, ap₂, ◌∙◌}
use mathlib.Core.List.{List, [], ◌∷◌}
use Prim.Native.Nat.{ℕ}
use lib.ListN.{length}
use Rattle.queue_model.specs.Run as run
use Rattle.queue_runs.specs.Calls.{Call, Shown}
use Rattle.queue_runs.specs.Run.{State, step}
use Rattle.queue_runs.specs.Meaning.{queue_of, GoodState, AllTyped, calls_of, all_shown_of}
use Rattle.queue_runs.proofs.Steps.{Stepped, step_link}
use Rattle.queue_runs.specs.Run as runs

-- After any list of calls the words are good and stand for the model's queue, and each call has shown what the model's shows.
pub record Ran (cs : List Call) (s : State) : Type 0 where
  pub good : GoodState (runs.after cs s)
  pub next_is : queue_of (runs.after cs s) ≡ run.after (calls_of (length s.store) cs) (queue_of s)
  pub shows_are : runs.run cs s ≡ all_shown_of cs (run.run (calls_of (length s.store) cs) (queue_of s))
  pub same_store : length (runs.after cs s).store ≡ length s.store

ran_none : (s : State) → GoodState s → Ran [] s
unfolding runs.after runs.run run.after run.run
ran_none s g = record { good = g; next_is = refl; shows_are = refl; same_store = refl }

ran_more : (c : Call) (cs : List Call) (s : State) → Stepped c s → Ran cs (step c s).next → Ran (c ∷ cs) s
unfolding runs.after runs.run run.after run.run
ran_more c cs s h r =
    let len : ℕ = length s.store in
    let e : calls_of (length (step c s).next.store) cs ≡ calls_of len cs = ap (λ (n : ℕ). calls_of n cs) h.same_store in
    record {
      good = r.good;
      next_is = r.next_is ∙ ap₂ run.after e h.next_is;
      shows_are = ap₂ (λ (o : Shown) (os : List Shown). o ∷ os) h.shows_are (r.shows_are ∙ ap (all_shown_of cs) (ap₂ run.run e h.next_is));
      same_store = r.same_store ∙ h.same_store;
    }

pub run_link : (cs : List Call) (s : State) → GoodState s → AllTyped cs → Ran cs s
run_link [] s g t = ran_none s g
run_link (c ∷ cs) s g t = let h = step_link c s g t.0 in ran_more c cs s h (run_link cs (step c s).next h.good t.1)
