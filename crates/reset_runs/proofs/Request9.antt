-- Request 9/13 on the words and stores that the calls leave (specs/Request9): the model's theorem, carried over. Assumes nothing.
use mathlib.Core.Path.{refl, sym, subst}
use mathlib.Core.List.{List}
use mathlib.Core.Option.{Option, none, some}
use Prim.Native.Nat.{ℕ}
use lib.ListN.{length}
use Rattle.queue_model.specs.Types.{Options, Queue}
use Rattle.queue_runs.specs.Calls.{restore}
use Rattle.queue_runs.specs.Run.{State}
use Rattle.queue_runs.specs.Creation.{Arguments, options_with}
use Rattle.queue_runs.specs.Meaning.{queue_of, GoodState}
use Rattle.queue_runs.proofs.Steps.{step_link, store_small}
use Rattle.queue_runs.proofs.News.{new_link}
use Rattle.queue_runs.proofs.Demand3.{stands, restores}
use Rattle.reset_model.specs.Handler as handlers
use Rattle.reset_model.specs.Uses as model
use Rattle.reset_model.proofs.Request9.{request9_message}
use Rattle.stream_reset_handler.specs.declared.handler.StreamResetHandler.{StreamResetHandler}
use Rattle.stream_reset_handler.specs.Handler.{underway_of}
use Rattle.reset_runs.specs.Uses.{after}
use Rattle.reset_runs.specs.Request9.{Starts, new, restored_from, started, resetting_in, Named, Request9}
use Rattle.reset_runs.proofs.Links.{uses_of, allowed_uses, run_link}

-- The queue at the handler's start is the model's, new or restored.
record Begun (s : State) : Type 0 where
  options : Options
  good : GoodState s
  starts : model.Starts options (queue_of s)

begun : (a : Arguments) (s : State) → Starts a s → Begun s
begun a _ (new {s} c) =
    let n = new_link a s c in
    record { options = options_with a (length s.store); good = n.good; starts = subst (model.Starts (options_with a (length s.store))) (sym n.queue_is) (model.new n.created) }
begun a _ (restored_from {len} {s} {time} {image} r h) =
    let t = stands a len s r in
    let k = step_link (restore time image) s t.good h.typed in
    record { options = options_with a len; good = k.good; starts = model.restored_from t.reachable h.typed.0 (restores time image s t.good h) }

named_of : (u : Option handlers.Request) (ids : List ℕ) (l : Option (List ℕ)) → model.Named u ids l → Named (underway_of u) ids l
named_of none ids l n = n
named_of (some u) ids l n = n

pub request9 : Request9
unfolding Request9 model.Request9Message model.NamedIn
request9 a s n us b allowed =
    let g = begun a s b in
    let m : model.Pair = model.pair (handlers.start n) (queue_of s) in
    let len : ℕ = length s.store in
    let r = run_link us (started n s) m none (record { good = g.good; handler_is = refl; queue_is = refl }) allowed in
    let m' : model.Pair = model.after (uses_of len us) m in
    let t = request9_message g.options (queue_of s) n (uses_of len us) g.starts (allowed_uses len us (store_small s g.good) allowed) in
    let x = named_of m'.handler.underway (handlers.resetting_ids m'.queue.streams) (model.last_message (uses_of len us) m none) t in
    subst (λ (l : Option (List ℕ)). Named (after us (started n s)).handler.underway (resetting_in (after us (started n s)).queue) l) (sym r.message_is)
    (subst (λ (q : Queue). Named (after us (started n s)).handler.underway (handlers.resetting_ids q.streams) (model.last_message (uses_of len us) m none)) (sym r.linked.queue_is)
    (subst (λ (h : StreamResetHandler). Named h.underway (handlers.resetting_ids m'.queue.streams) (model.last_message (uses_of len us) m none)) (sym r.linked.handler_is) x))
