-- The queues of a job stand for those of the model's job. Assumes nothing.
use mathlib.Core.Path.{◌≡◌, refl, sym, ap, ap₂, ◌∙◌, subst}
use mathlib.Core.Bool.{Bool, true}
use mathlib.Core.List.{List, [], ◌∷◌, map}
use Prim.Native.Nat.{ℕ, ◌<◌, ◌^◌}
use native.Mathlib.Omega.{arith}
use lib.ListN.{length}
use Rattle.queue_model.specs.Types.{Queue}
use Rattle.queue_model.specs.Streams.{new_queue}
use Rattle.queue_model.specs.Run as run
use Rattle.queue_model.specs.Demands as demands
use Rattle.queue_runs.specs.Calls.{Call}
use Rattle.queue_runs.specs.Run as runs
use Rattle.queue_runs.specs.Run.{State}
use Rattle.queue_runs.specs.Meaning.{queue_of, GoodState, AllTyped, calls_of}
use Rattle.queue_runs.specs.Creation.{Arguments, options_with, new_state, Creates}
use Rattle.queue_runs.proofs.Steps.{typed_call, store_small}
use Rattle.queue_runs.proofs.Runs.{run_link}
use Rattle.queue_runs.proofs.News.{new_link}
use Rattle.queue_runs.proofs.Alike.{all_typed}
use Rattle.priority_plan.specs.Works.{All, IsPriority, planned_streams}
use Rattle.priority_plan.specs.Jobs as model
use Rattle.priority_plan.specs.Turns as turns
use Rattle.priority_plan.specs.Runs as requests
use Rattle.queue_plans.specs.Jobs.{priority_calls, settings, Adding, adding_call, Later, later_call, prepared, loaded, Accepted, addings_of}
use Rattle.queue_plans.specs.FirstFragments.{streams_shown, ends, InTurn}
use Rattle.queue_plans.proofs.Calls.{later_of, laters_link, addings_link, settings_link}
use Rattle.queue_plans.proofs.Shows.{Plain, adds, sets, switches, accepted_link, streams_link, ends_link}

-- A state whose words and store are good, which stands for a queue and has a store of a length.
pub record Stands (len : ℕ) (q : Queue) (s : State) : Type 0 where
  pub good : GoodState s
  pub queue_is : queue_of s ≡ q
  pub store_is : length s.store ≡ len

-- ------------------------------------------------------------------ lists of calls from such a state

-- The calls of the model, and the queue after them.
pub calls_on : (len : ℕ) (q : Queue) (s : State) (cs : List Call) (ms : List run.Call) → Stands len q s → calls_of len cs ≡ ms → run.run (calls_of (length s.store) cs) (queue_of s) ≡ run.run ms q
calls_on len q s cs ms n e = ap₂ run.run (ap (λ (k : ℕ). calls_of k cs) n.store_is ∙ e) n.queue_is

pub stands_after : (len : ℕ) (q : Queue) (s : State) (cs : List Call) (ms : List run.Call) → Stands len q s → AllTyped cs → calls_of len cs ≡ ms → Stands len (run.after ms q) (runs.after cs s)
stands_after len q s cs ms n t e =
    let r = run_link cs s n.good t in
    record { good = r.good; queue_is = r.next_is ∙ ap₂ run.after (ap (λ (k : ℕ). calls_of k cs) n.store_is ∙ e) n.queue_is; store_is = r.same_store ∙ n.store_is }

-- Accepted here, accepted there; and back.
pub accepted_there : (len : ℕ) (q : Queue) (s : State) (cs : List Call) (ms : List run.Call) → Stands len q s → AllTyped cs → calls_of len cs ≡ ms → All Plain cs → Accepted (runs.run cs s) → model.Accepted (run.run ms q)
accepted_there len q s cs ms n t e p a =
    subst model.Accepted (calls_on len q s cs ms n e) ((accepted_link (length s.store) cs (queue_of s) p).0 (subst Accepted (run_link cs s n.good t).shows_are a))

pub accepted_here : (len : ℕ) (q : Queue) (s : State) (cs : List Call) (ms : List run.Call) → Stands len q s → AllTyped cs → calls_of len cs ≡ ms → All Plain cs → model.Accepted (run.run ms q) → Accepted (runs.run cs s)
accepted_here len q s cs ms n t e p a =
    subst Accepted (sym (run_link cs s n.good t).shows_are) ((accepted_link (length s.store) cs (queue_of s) p).1 (subst model.Accepted (sym (calls_on len q s cs ms n e)) a))

-- The streams of the fragments that are shown, and whether a call finds that nothing waits.
pub streams_on : (len : ℕ) (q : Queue) (s : State) (xs : List Later) → Stands len q s → AllTyped (map later_call xs) → streams_shown (runs.run (map later_call xs) s) ≡ turns.streams_shown (run.run (map model.later_call (map (later_of len) xs)) q)
streams_on len q s xs n t =
    ap streams_shown (run_link (map later_call xs) s n.good t).shows_are ∙ streams_link (length s.store) xs (queue_of s)
    ∙ ap turns.streams_shown (calls_on len q s (map later_call xs) (map model.later_call (map (later_of len) xs)) n (laters_link len xs))

pub ends_on : (len : ℕ) (q : Queue) (s : State) (xs : List Later) → Stands len q s → AllTyped (map later_call xs) → ends (runs.run (map later_call xs) s) ≡ turns.ends (run.run (map model.later_call (map (later_of len) xs)) q)
ends_on len q s xs n t =
    ap ends (run_link (map later_call xs) s n.good t).shows_are ∙ ends_link (length s.store) xs (queue_of s)
    ∙ ap turns.ends (calls_on len q s (map later_call xs) (map model.later_call (map (later_of len) xs)) n (laters_link len xs))

turn_moved : (ids ks ls : List ℕ) (b c : Bool) → ks ≡ ls → b ≡ c → turns.ServedInTurn ids ks b → turns.ServedInTurn ids ls c
turn_moved ids ks ls b c e f t = subst (λ (l : List ℕ). turns.ServedInTurn ids l c) e (subst (λ (x : Bool). turns.ServedInTurn ids ks x) f t)

-- In turn there, in turn here; and back.
pub turn_here : (len : ℕ) (q : Queue) (s : State) (ids : List ℕ) (xs : List Later) → Stands len q s → AllTyped (map later_call xs) → turns.InTurn ids (run.run (map model.later_call (map (later_of len) xs)) q) → InTurn ids (runs.run (map later_call xs) s)
turn_here len q s ids xs n t h = turn_moved ids _ _ _ _ (sym (streams_on len q s xs n t)) (sym (ends_on len q s xs n t)) h

pub turn_there : (len : ℕ) (q : Queue) (s : State) (ids : List ℕ) (xs : List Later) → Stands len q s → AllTyped (map later_call xs) → InTurn ids (runs.run (map later_call xs) s) → turns.InTurn ids (run.run (map model.later_call (map (later_of len) xs)) q)
turn_there len q s ids xs n t h = turn_moved ids _ _ _ _ (streams_on len q s xs n t) (ends_on len q s xs n t) h

-- ------------------------------------------------------------------ the calls of a job

plain_priorities : (ids ps : List ℕ) → All Plain (priority_calls ids ps)
unfolding priority_calls
plain_priorities [] ps = tt
plain_priorities (i ∷ is) [] = tt
plain_priorities (i ∷ is) (p ∷ ps) = (sets i p, plain_priorities is ps)

pub plain_settings : (ids ps : List ℕ) → All Plain (settings ids ps)
plain_settings ids ps = (switches true, plain_priorities ids ps)

pub plain_messages : (ms : List Adding) → All Plain (map adding_call ms)
plain_messages [] = tt
plain_messages (a ∷ ms) = (adds a, plain_messages ms)

priorities_typed : (ids ps : List ℕ) → All (λ (i : ℕ). i < 2 ^ 16) ids → All IsPriority ps → AllTyped (priority_calls ids ps)
unfolding priority_calls
priorities_typed [] ps a b = tt
priorities_typed (i ∷ is) [] a b = tt
priorities_typed (i ∷ is) (p ∷ ps) a b = let h = b.0.1 in ((a.0, omega arith), priorities_typed is ps a.1 b.1)

pub settings_typed : (ids ps : List ℕ) → All (λ (i : ℕ). i < 2 ^ 16) ids → All IsPriority ps → AllTyped (settings ids ps)
settings_typed ids ps a b = (tt, priorities_typed ids ps a b)

-- The model's messages have their widths.
pub messages_typed : (len : ℕ) (q : Queue) (s : State) (ms : List Adding) → Stands len q s → AllTyped (map adding_call ms) → demands.AllTyped (map model.adding_call (addings_of len ms))
messages_typed len q s ms n t =
    subst demands.AllTyped (addings_link len ms) (all_typed len (map adding_call ms) (λ c h. typed_call len c (subst (λ (k : ℕ). k < 2 ^ 64) n.store_is (store_small s n.good)) h) t)

-- ------------------------------------------------------------------ the queues of a job

pub new_stands : (a : Arguments) (s : State) → Creates a s → Stands (length s.store) (new_queue (options_with a (length s.store))) (new_state a s)
new_stands a s c = let n = new_link a s c in record { good = n.good; queue_is = n.queue_is; store_is = refl }

pub prepared_stands : (a : Arguments) (s : State) (ids sizes ps : List ℕ) → Creates a s → length ids ≡ length sizes → AllTyped (settings ids ps)
    → Stands (length s.store) (model.set_up (options_with a (length s.store)) (requests.plan_settings (planned_streams ids sizes) ps)) (prepared a s ids ps)
prepared_stands a s ids sizes ps c e t =
    let len : ℕ = length s.store in
    stands_after len (new_queue (options_with a len)) (new_state a s) (settings ids ps) (map model.setting_call (requests.plan_settings (planned_streams ids sizes) ps)) (new_stands a s c) t (settings_link len ids sizes ps e)

pub loaded_stands : (a : Arguments) (s : State) (ids sizes ps : List ℕ) (ms : List Adding) → Creates a s → length ids ≡ length sizes → AllTyped (settings ids ps) → AllTyped (map adding_call ms)
    → Stands (length s.store) (model.loaded (options_with a (length s.store)) (requests.plan_settings (planned_streams ids sizes) ps) (addings_of (length s.store) ms)) (loaded a s ids ps ms)
loaded_stands a s ids sizes ps ms c e t u =
    let len : ℕ = length s.store in
    let ss = requests.plan_settings (planned_streams ids sizes) ps in
    stands_after len (model.set_up (options_with a len) ss) (prepared a s ids ps) (map adding_call ms) (map model.adding_call (addings_of len ms)) (prepared_stands a s ids sizes ps c e t) u (addings_link len ms)
