-- Two queues show the same in every list of calls exactly when their models cannot be told apart. Assumes nothing.
use mathlib.Core.Path.{◌≡◌, refl, sym, ap, ap₂, ◌∙◌}
use mathlib.Core.Logic.{◌↔◌}
use mathlib.Core.List.{List, [], ◌∷◌}
use Prim.Native.Nat.{ℕ}
use lib.ListN.{length}
use Rattle.queue_model.specs.Types as plain
use Rattle.queue_model.specs.Types.{Queue, Outcome}
use Rattle.queue_model.specs.Demands as demands
use Rattle.queue_model.specs.Demands.{Indistinguishable}
use Rattle.queue_model.specs.Run as run
use Rattle.queue_model.proofs.Invariant.Events.{events_fit}
use Rattle.queue_runs.specs.Calls.{Call, call_of, Typed}
use Rattle.queue_runs.specs.Run.{State, step}
use Rattle.queue_runs.specs.Run as runs
use Rattle.queue_runs.specs.Meaning.{queue_of, GoodState, shown_of, AllTyped, SameShown, calls_of, all_shown_of}
use Rattle.queue_runs.proofs.Steps.{step_link, meant, typed_call, store_same, store_small}
use Rattle.queue_runs.proofs.Runs.{run_link}
use Rattle.queue_runs.proofs.Forms.{form_of}
use Rattle.queue_runs.proofs.Tells.{Long, shows_tell}
use Rattle.queue_runs.proofs.Translates.{Translates, left_out, stands_for, translate}

-- ------------------------------------------------------------------ from the models to the words

pub all_typed : (len : ℕ) (cs : List Call) → ((c : Call) → Typed c → demands.Typed (call_of len c)) → AllTyped cs → demands.AllTyped (calls_of len cs)
all_typed len [] f t = tt
all_typed len (c ∷ cs) f t = (f c t.0, all_typed len cs f t.1)

alike_runs : (s₁ s₂ : State) → GoodState s₁ → GoodState s₂ → length s₁.store ≡ length s₂.store → Indistinguishable (queue_of s₁) (queue_of s₂) → SameShown s₁ s₂
alike_runs s₁ s₂ g₁ g₂ l i cs t =
    let len : ℕ = length s₁.store in
    let e : run.run (calls_of len cs) (queue_of s₁) ≡ run.run (calls_of len cs) (queue_of s₂) = i (calls_of len cs) (all_typed len cs (λ c h. typed_call len c (store_small s₁ g₁) h) t) in
    (run_link cs s₁ g₁ t).shows_are ∙ ap (all_shown_of cs) (e ∙ ap (λ (n : ℕ). run.run (calls_of n cs) (queue_of s₂)) l) ∙ sym (run_link cs s₂ g₂ t).shows_are

-- ------------------------------------------------------------------ from the words to the models

-- One call that shows the same, and the lists behind it.
tail_same : (c : Call) (s₁ s₂ : State) → Typed c → SameShown s₁ s₂ → ((step c s₁).shows ≡ (step c s₂).shows) × SameShown (step c s₁).next (step c s₂).next
unfolding runs.run
tail_same c s₁ s₂ t h =
    let a : ((step c s₁).shows ∷ []) ≡ ((step c s₂).shows ∷ []) = h (c ∷ []) (t, tt) in
    let b : (step c s₁).shows ≡ (step c s₂).shows = cc in
    (b, λ cs u. let e : ((step c s₁).shows ∷ runs.run cs (step c s₁).next) ≡ ((step c s₂).shows ∷ runs.run cs (step c s₂).next) = h (c ∷ cs) (t, u) in let z : runs.run cs (step c s₁).next ≡ runs.run cs (step c s₂).next = cc in z)

-- The model's call shows the same too.
outcome_same : (c : Call) (s₁ s₂ : State) → GoodState s₁ → GoodState s₂ → length s₁.store ≡ length s₂.store → Typed c → Long c → (step c s₁).shows ≡ (step c s₂).shows
    → (run.step (call_of (length s₁.store) c) (queue_of s₁)).outcome ≡ (run.step (call_of (length s₁.store) c) (queue_of s₂)).outcome
outcome_same c s₁ s₂ g₁ g₂ l t w e =
    let len : ℕ = length s₁.store in
    let o : Outcome = (run.step (call_of len c) (queue_of s₁)).outcome in
    let p : Outcome = (run.step (call_of len c) (queue_of s₂)).outcome in
    let x : (step c s₂).shows ≡ shown_of c p = (step_link c s₂ g₂ t).shows_are ∙ ap (λ (n : ℕ). shown_of c (run.step (call_of n c) (queue_of s₂)).outcome) (sym l) in
    shows_tell len c o p w (events_fit (call_of len c) (queue_of s₁) g₁.well) (form_of (call_of len c) (queue_of s₁)) (form_of (call_of len c) (queue_of s₂))
    (sym (step_link c s₁ g₁ t).shows_are ∙ e ∙ x)

run_more : (m : run.Call) (ms : List run.Call) (q : Queue) → run.run (m ∷ ms) q ≡ (run.step m q).outcome ∷ run.run ms (run.step m q).next
unfolding run.run
run_more m ms q = refl

-- Two runs whose first calls show the same.
both_more : (m : run.Call) (ms : List run.Call) (q₁ q₂ r₁ r₂ : Queue) → (run.step m q₁).outcome ≡ (run.step m q₂).outcome → (run.step m q₁).next ≡ r₁ → (run.step m q₂).next ≡ r₂ → run.run ms r₁ ≡ run.run ms r₂ → run.run (m ∷ ms) q₁ ≡ run.run (m ∷ ms) q₂
both_more m ms q₁ q₂ r₁ r₂ o a b h =
    run_more m ms q₁ ∙ ap₂ (λ (x : Outcome) (xs : List Outcome). x ∷ xs) o (ap (run.run ms) a ∙ h ∙ ap (run.run ms) (sym b)) ∙ sym (run_more m ms q₂)

-- What is to be shown of a list of the model's calls, from any two states.
abbrev Follows : List run.Call → Type 0
Follows ms = (s₁ s₂ : State) → GoodState s₁ → GoodState s₂ → length s₁.store ≡ length s₂.store → SameShown s₁ s₂ → run.run ms (queue_of s₁) ≡ run.run ms (queue_of s₂)

follow : (m : run.Call) (ms : List run.Call) (s₁ s₂ : State) → GoodState s₁ → GoodState s₂ → length s₁.store ≡ length s₂.store → SameShown s₁ s₂ → Follows ms → Translates (length s₁.store) m
    → run.run (m ∷ ms) (queue_of s₁) ≡ run.run (m ∷ ms) (queue_of s₂)
follow m ms s₁ s₂ g₁ g₂ l h ih (left_out n f) =
    let a = f (queue_of s₁) (sym (store_same s₁ g₁)) in
    let b = f (queue_of s₂) (sym (store_same s₂ g₂) ∙ sym l) in
    both_more m ms (queue_of s₁) (queue_of s₂) (queue_of s₁) (queue_of s₂) (ap (λ (x : plain.Step). x.outcome) a ∙ ap (λ (x : plain.Step). x.outcome) (sym b)) (ap (λ (x : plain.Step). x.next) a) (ap (λ (x : plain.Step). x.next) b) (ih s₁ s₂ g₁ g₂ l h)
follow m ms s₁ s₂ g₁ g₂ l h ih (stands_for c t w f) =
    let u = tail_same c s₁ s₂ t h in
    let k₁ = step_link c s₁ g₁ t in
    let k₂ = step_link c s₂ g₂ t in
    let a : run.step m (queue_of s₁) ≡ meant c s₁ = sym (f (queue_of s₁)) in
    let b : run.step m (queue_of s₂) ≡ meant c s₂ = sym (f (queue_of s₂)) ∙ ap (λ (n : ℕ). run.step (call_of n c) (queue_of s₂)) l in
    let o : (run.step m (queue_of s₁)).outcome ≡ (run.step m (queue_of s₂)).outcome = ap (λ (x : plain.Step). x.outcome) (sym (f (queue_of s₁))) ∙ outcome_same c s₁ s₂ g₁ g₂ l t w u.0 ∙ ap (λ (x : plain.Step). x.outcome) (f (queue_of s₂)) in
    both_more m ms (queue_of s₁) (queue_of s₂) (queue_of (step c s₁).next) (queue_of (step c s₂).next) o
    (ap (λ (x : plain.Step). x.next) a ∙ sym k₁.next_is) (ap (λ (x : plain.Step). x.next) b ∙ sym k₂.next_is)
    (ih (step c s₁).next (step c s₂).next k₁.good k₂.good (k₁.same_store ∙ l ∙ sym k₂.same_store) u.1)

run_none : (q : Queue) → run.run [] q ≡ []
unfolding run.run
run_none q = refl

alike_models : (ms : List run.Call) → demands.AllTyped ms → Follows ms
alike_models [] t s₁ s₂ g₁ g₂ l h = run_none (queue_of s₁) ∙ sym (run_none (queue_of s₂))
alike_models (m ∷ ms) t s₁ s₂ g₁ g₂ l h = follow m ms s₁ s₂ g₁ g₂ l h (alike_models ms t.1) (translate (length s₁.store) m t.0)

-- ------------------------------------------------------------------ both

pub alike : (s₁ s₂ : State) → GoodState s₁ → GoodState s₂ → length s₁.store ≡ length s₂.store → SameShown s₁ s₂ ↔ Indistinguishable (queue_of s₁) (queue_of s₂)
alike s₁ s₂ g₁ g₂ l = (λ h ms t. alike_models ms t s₁ s₂ g₁ g₂ l h, alike_runs s₁ s₂ g₁ g₂ l)
