-- Demand 3, on the words and the store that the calls leave. Assumes nothing.
use mathlib.Core.Path.{◌≡◌, refl, sym, ap, subst, ◌∙◌}
use mathlib.Core.Logic.{◌↔◌}
use mathlib.Core.Bool.{false}
use mathlib.Core.List.{List, []}
use Prim.Native.Nat.{ℕ}
use native.Mathlib.Omega.{arith}
use lib.ListN.{length}
use Rattle.queue_model.specs.Types as plain
use Rattle.queue_model.specs.Types.{Queue, Outcome, reply, done}
use Rattle.queue_model.specs.Run as run
use Rattle.queue_model.specs.Restore as image
use Rattle.queue_model.specs.Demands as demands
use Rattle.queue_model.specs.Demands.{Reachable, Indistinguishable}
use Rattle.queue_model.proofs.Demand3.Theorem as model
use Rattle.queue_state.proofs.Singles.{model_interleaving}
use Rattle.queue_runs.specs.Calls.{restore}
use Rattle.queue_runs.specs.Run.{State, after}
use Rattle.queue_runs.specs.Meaning.{queue_of, GoodState, quiet_of, SameShown}
use Rattle.queue_runs.specs.Creation.{Arguments, options_with, new_state}
use Rattle.queue_runs.specs.Refusals.{refusal}
use Rattle.queue_runs.specs.Demand3.{Reached, Accepts, restored, Demand3}
use Rattle.queue_runs.proofs.Steps.{step_link, meant, store_same}
use Rattle.queue_runs.proofs.Runs.{run_link}
use Rattle.queue_runs.proofs.News.{new_link, reached}
use Rattle.queue_runs.proofs.Forms.{told, Quiet, quiet_refused, quiet_done, form_of}
use Rattle.queue_runs.proofs.Alike.{alike}

-- ------------------------------------------------------------------ reached queues

-- They are good, stand for reachable queues of the model, and their stores have the length of creation.
pub record Stands (o : plain.Options) (len : ℕ) (s : State) : Type 0 where
  pub good : GoodState s
  pub reachable : Reachable o (queue_of s)
  pub store_is : length s.store ≡ len

pub stands : (a : Arguments) (len : ℕ) (s : State) → Reached a len s → Stands (options_with a len) len s
stands a len s r =
    let n = new_link a r.before r.creates in
    let h = run_link r.calls (new_state a r.before) n.good r.typed in
    let x : Stands (options_with a (length r.before.store)) (length r.before.store) (after r.calls (new_state a r.before)) =
    record { good = h.good; reachable = reached a r.before r.calls r.creates r.typed; store_is = h.same_store } in
    subst (λ (k : ℕ). Stands (options_with a k) k s) r.store_is (subst (Stands (options_with a (length r.before.store)) (length r.before.store)) (sym r.state_is) x)

-- ------------------------------------------------------------------ accepted images

-- A call that is not refused is done.
accepted_done : (o : Outcome) → Quiet o → refusal (quiet_of o).answer ≡ false → o ≡ told done []
accepted_done o (quiet_refused n) e = let z : ◌≡◌ {A = ℕ} 0 1 = cc in absurd (omega arith)
accepted_done o quiet_done e = refl

pub restore_is : (store now : ℕ) (i : List ℕ) (q : Queue) → run.step (run.restore store now i) q ≡ image.restore store now i q
unfolding run.step
restore_is store now i q = refl

pub restores : (time : ℕ) (i : List ℕ) (s : State) → GoodState s → Accepts time i s → demands.Restores time i (queue_of s) (queue_of (restored time i s))
restores time i s g h =
    let k = step_link (restore time i) s g h.typed in
    let len : ℕ = length s.store in
    let x : plain.Step = meant (restore time i) s in
    let o : x.outcome ≡ told done [] = accepted_done x.outcome (form_of (run.restore len time i) (queue_of s)) (ap (λ y. refusal y.answer) (sym k.shows_are) ∙ h.accepted) in
    let e : x ≡ reply done [] (queue_of (restored time i s)) = λ j. record { outcome = o j; next = sym k.next_is j } in
    record {
      bytes = h.typed.1.1;
      accepted = ap (λ (n : ℕ). image.restore n time i (queue_of s)) (sym (store_same s g)) ∙ sym (restore_is len time i (queue_of s)) ∙ e;
    }

-- ------------------------------------------------------------------ the theorem

pub demand3 : Demand3
unfolding Demand3 demands.Demand3
demand3 a len s₁ s₂ time i₁ i₂ c₁ c₂ il late h₁ h₂ =
    let t₁ = stands a len s₁ c₁ in
    let t₂ = stands a len s₂ c₂ in
    let q : (queue_of s₁).interleaving ≡ (queue_of s₂).interleaving = model_interleaving s₁.words s₁.store ∙ il ∙ sym (model_interleaving s₂.words s₂.store) in
    let r₁ : State = restored time i₁ s₁ in
    let r₂ : State = restored time i₂ s₂ in
    let k₁ = step_link (restore time i₁) s₁ t₁.good h₁.typed in
    let k₂ = step_link (restore time i₂) s₂ t₂.good h₂.typed in
    let m : (i₁ ≡ i₂) ↔ Indistinguishable (queue_of r₁) (queue_of r₂) =
    model.demand3 (options_with a len) (queue_of s₁) (queue_of s₂) (queue_of r₁) (queue_of r₂) time i₁ i₂ t₁.reachable t₂.reachable q late (restores time i₁ s₁ t₁.good h₁) (restores time i₂ s₂ t₂.good h₂) in
    let w : SameShown r₁ r₂ ↔ Indistinguishable (queue_of r₁) (queue_of r₂) = alike r₁ r₂ k₁.good k₂.good (k₁.same_store ∙ t₁.store_is ∙ sym t₂.store_is ∙ sym k₂.same_store) in
    (λ e. w.1 (m.0 e), λ h. m.1 (w.0 h))
