-- A reachable queue that knows no stream is as new, but for its interleaving choice. Assumes nothing.
use mathlib.Core.Path.{◌≡◌, refl, sym, ap, ap₂, ◌∙◌, subst}
use mathlib.Core.Bool.{Bool}
use mathlib.Core.List.{List, [], ◌∷◌}
use mathlib.Core.Option.{Option, none, some}
use Prim.Native.Nat.{ℕ}
use native.Mathlib.Omega.{arith}
use Rattle.queue_model.specs.Types.{Stream, Active, Scheduler, Options, Queue}
use Rattle.queue_model.specs.Scheduler.{new_scheduler, active_key, find_active}
use Rattle.queue_model.specs.Streams.{amounts, stream_key}
use Rattle.queue_model.specs.Demands.{Reachable}
use Rattle.queue_model.proofs.Table.{Every, find_nil, not_in_nil}
use Rattle.queue_model.proofs.Streams.{size_unknown}
use Rattle.queue_model.proofs.Invariant.Waits.{Remembers, Listed, Waits}
use Rattle.queue_model.proofs.Invariant.Sixteen.{reachable_well, reachable_options}
use Rattle.queue_model.proofs.Calm.Calm.{calm_scheduler}
use Rattle.queue_model.proofs.Demand3.Restored.{blank}

-- ---- a scheduler without streams

pub none_listed : (il : Bool) (as' : List Active) → Every (Listed il []) as' → as' ≡ []
none_listed il [] e = refl
none_listed il (a ∷ as') e = let z = size_unknown a.stream_id [] (find_nil stream_key a.stream_id) in let s = e.0.sized in let p = e.0.positive in absurd (omega arith)

pub none_remembered : (c : Option ℕ) (as' : List Active) → Remembers c as' → as' ≡ [] → c ≡ none
none_remembered none as' r e = refl
none_remembered (some k) as' r e = absurd (not_in_nil active_key k r.0 (ap (find_active k) (sym e) ∙ r.1))

pub new_waits : (limit : ℕ) (il : Bool) (sc : Scheduler) → Waits limit (Listed il []) sc → sc ≡ new_scheduler limit
unfolding new_scheduler
new_waits limit il sc w =
    let f : ℕ → Option ℕ → ℕ → List Active → Scheduler = λ l c t as'. record { payload_limit = l; current = c; system_time = t; active = as' } in
    let e : sc.active ≡ [] = none_listed il sc.active w.sched.every in
    ap₂ (λ (l : ℕ) (c : Option ℕ). f l c sc.system_time sc.active) w.sched.limit_same (none_remembered sc.current sc.active w.sched.remembers e)
    ∙ ap₂ (λ (t : ℕ) (as' : List Active). f limit none t as') (w.idle e) e

-- As new: the options, and with no stream an empty total and scheduler.
pub record AsNew (o : Options) (q : Queue) : Type 0 where
  pub new_options : q.options ≡ o
  pub new_total : q.streams ≡ [] → q.total ≡ 0
  pub new_scheduled : q.streams ≡ [] → q.scheduler ≡ new_scheduler o.payload_limit

amounts_nil : (ss : List Stream) → ss ≡ [] → amounts ss ≡ 0
amounts_nil ss e = ap amounts e

pub reachable_new : {o : Options} {q : Queue} → Reachable o q → AsNew o q
reachable_new {q = q} r =
    let w = reachable_well r in let e = reachable_options r in
    record {
      new_options = e;
      new_total = λ n. w.total_counted ∙ amounts_nil q.streams n;
      new_scheduled = λ n. new_waits q.options.payload_limit q.interleaving q.scheduler (subst (λ (l : List Stream). Waits q.options.payload_limit (Listed q.interleaving l) q.scheduler) n w.waits) ∙ ap (λ (o : Options). new_scheduler o.payload_limit) e;
    }

calm_new : (o : Options) (il : Bool) → new_scheduler o.payload_limit ≡ calm_scheduler o il none []
unfolding new_scheduler calm_scheduler
calm_new o il = refl

make_queue : Options → Bool → ℕ → ℕ → List Stream → Scheduler → Queue
make_queue o b t n ss sc = record { options = o; interleaving = b; total = t; next_message_id = n; streams = ss; scheduler = sc }

make_queue_of : (q : Queue) → q ≡ make_queue q.options q.interleaving q.total q.next_message_id q.streams q.scheduler
unfolding make_queue
make_queue_of q = refl

blank_of : (o : Options) (il : Bool) → blank o il ≡ make_queue o il 0 0 [] (calm_scheduler o il none [])
unfolding blank make_queue
blank_of o il = refl

pub new_blank : (o : Options) (q : Queue) → AsNew o q → q.streams ≡ [] → q.next_message_id ≡ 0 → q ≡ blank o q.interleaving
new_blank o q n e z =
    let a = n.new_options in let t = n.new_total e in let s : q.scheduler ≡ calm_scheduler o q.interleaving none [] = n.new_scheduled e ∙ calm_new o q.interleaving in
    cc (make_queue_of q, blank_of o q.interleaving)
