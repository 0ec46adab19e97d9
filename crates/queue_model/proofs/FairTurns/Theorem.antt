-- Fair turns (request 11/13, second half) on the model. Assumes nothing.
use mathlib.Core.Path.{◌≡◌, refl, sym, ap, ap₂, ◌∙◌, subst}
use mathlib.Core.Bool.{true}
use mathlib.Core.List.{List, [], ◌∷◌, ◌++◌}
use mathlib.Core.Option.{Option, none, some}
use Prim.Native.Nat.{ℕ, ◌+◌, ◌≤◌}
use native.Mathlib.Omega.{arith}
use lib.Dec.{eqb, eqb→eq}
use Rattle.queue_model.specs.Logic.{is_some}
use Rattle.queue_model.specs.Types.{weighted, Options, Queue}
use Rattle.queue_model.specs.Scheduler.{cost, active_key, find_active}
use Rattle.queue_model.specs.Questions.{priority_of, amount_of, is_empty}
use Rattle.queue_model.specs.Run.{Call, step, run, after}
use Rattle.queue_model.specs.Waiting.{is_waiting}
use Rattle.queue_model.specs.FairTurns.{Allowed, adds, sends, times_below, Turn, Turns, AlwaysWait, charged, full_cost, Within, FairShare, Request11Turns}
use Rattle.queue_model.proofs.Tests.{holds, less, same, more, tri}
use Rattle.queue_model.proofs.Table.{found, missing, look_up, empty, first, split, Every, every_find, find_key, find_here, not_in_nil}
use Rattle.queue_model.proofs.Invariant.Waits.{Remembers}
use Rattle.queue_model.proofs.Invariant.Well.{Well, amount_le}
use Rattle.queue_model.proofs.Invariant.Sixteen.{fine_step, reachable_well}
use Rattle.queue_model.proofs.Invariant.Serving.{waits_above}
use Rattle.queue_model.proofs.FairTurns.Entries.{Fair, FairTimes, finish_most}
use Rattle.queue_model.proofs.FairTurns.Starts.{start_at, start_found, start_missing}
use Rattle.queue_model.proofs.FairTurns.Steps.{FairQueue, Goes, goes_add, goes_produce}

-- ---- the start: an empty queue

-- A stream that waits has an amount above 0, so on an empty queue none does.
empty_idle : (q : Queue) → Well q → is_empty q ≡ true → q.scheduler.active ≡ []
unfolding is_empty is_waiting amount_of
empty_idle q w e = elim (split q.scheduler.active) [
  | empty g ↦ g
  | first a as' g ↦ (let h : is_waiting a.stream_id q ≡ true = ap is_some (ap (find_active a.stream_id) g ∙ find_here active_key a.stream_id a as' refl) in
      let l = waits_above q a.stream_id w h in
      let m = amount_le q a.stream_id w in
      let z : q.total ≡ 0 = eqb→eq q.total 0 (holds (eqb q.total 0) e) in absurd (omega arith))
]

nobody_of : (c : Option ℕ) → Remembers c [] → c ≡ none
nobody_of none r = refl
nobody_of (some k) r = absurd (not_in_nil active_key k r.0 r.1)

pub fair_empty : (q : Queue) → Well q → is_empty q ≡ true → q.interleaving ≡ true → FairQueue (priority_of q) q
fair_empty q w e i =
    let n = empty_idle q w e in
    let sc = w.waits.sched in
    record {
      on = i;
      fixed = λ k. refl;
      times = record {
        limit_is = sc.limit_same;
        rises = sc.rises;
        time_fits = sc.time_fits;
        nobody = nobody_of q.scheduler.current (subst (Remembers q.scheduler.current) n sc.remembers);
        each = subst (Every (Fair q.scheduler.system_time q.options.payload_limit (priority_of q))) (sym n) tt;
      };
    }

-- ---- one call

goes_allowed : (p : ℕ → ℕ) (c : Call) (q : Queue) → Well q → FairQueue p q → times_below q ≡ true → Allowed q c → Goes p q (step c q)
unfolding step
goes_allowed p c q w f b (adds store now m) = goes_add p store now m q w f
goes_allowed p c q w f b (sends store places buffer now e) = goes_produce p store places buffer now q.options.payload_limit q w f b refl e

goes : (p : ℕ → ℕ) (c : Call) (q : Queue) → Well q → FairQueue p q → Turn c q → Goes p q (step c q)
goes p c q w f t = goes_allowed p c q w f t.below t.allowed

-- A queue on the way, with the options and priorities of the start.
record Way (o : Options) (p : ℕ → ℕ) (q : Queue) : Type 0 where
  well : Well q
  options : q.options ≡ o
  fair : FairQueue p q

way_on : (o : Options) (p : ℕ → ℕ) (c : Call) (q : Queue) → Way o p q → Turn c q → Way o p (step c q).next
way_on o p c q y t =
    let f = fine_step c q t.typed y.well in
    let g = goes p c q y.well y.fair t in
    record {
      well = f.next_well;
      options = f.same_options ∙ y.options;
      fair = record { on = g.next_on; fixed = g.next_fixed; times = subst (λ (x : Options). FairTimes x.payload_limit p (step c q).next.scheduler) (sym f.same_options) g.next_times };
    }

-- ---- lists of calls

way_before : (o : Options) (p : ℕ → ℕ) (before during : List Call) (q : Queue) → Way o p q → Turns (before ++ during) q → Way o p (after before q) × Turns during (after before q)
unfolding after
way_before o p [] during q y t = (y, t)
way_before o p (c ∷ cs) during q y t = way_before o p cs during (step c q).next (way_on o p c q y t.0) t.1

-- Over a stretch in which j and k wait, each start moves by what the stream is charged.
record Moved (o : Options) (p : ℕ → ℕ) (j k : ℕ) (cs : List Call) (q : Queue) : Type 0 where
  way : Way o p (after cs q)
  j_moved : start_at j (after cs q).scheduler ≡ start_at j q.scheduler + charged (p j) j (run cs q)
  k_moved : start_at k (after cs q).scheduler ≡ start_at k q.scheduler + charged (p k) k (run cs q)

moved_over : (o : Options) (p : ℕ → ℕ) (j k : ℕ) (cs : List Call) (q : Queue) → (j ≡ k → ⊥) → Way o p q → Turns cs q → AlwaysWait j k cs q → Moved o p j k cs q
unfolding after run charged
moved_over o p j k [] q d y t a = record { way = y; j_moved = omega arith; k_moved = omega arith }
moved_over o p j k (c ∷ cs) q d y t a =
    let g = goes p c q y.well y.fair t.0 in
    let m = moved_over o p j k cs (step c q).next d (way_on o p c q y t.0) t.1 a.1 in
    let x = g.moves k j (λ e. d (sym e)) a.0.1 a.0.0 in
    let z = g.moves j k d a.0.0 a.0.1 in
    let u = m.j_moved in let v = m.k_moved in
    record { way = m.way; j_moved = omega arith; k_moved = omega arith }

-- ---- the bound

-- A stream has started by the system time, at most a full fragment before it.
record Near (o : Options) (p : ℕ → ℕ) (k : ℕ) (q : Queue) : Type 0 where
  low : start_at k q.scheduler ≤ q.scheduler.system_time
  high : q.scheduler.system_time ≤ start_at k q.scheduler + cost (weighted (p k)) o.payload_limit

near : (o : Options) (p : ℕ → ℕ) (k : ℕ) (q : Queue) → Way o p q → Near o p k q
near o p k q y = elim (look_up active_key k q.scheduler.active) [
  | missing e ↦ (let s = start_missing k q.scheduler e in record { low = omega arith; high = omega arith })
  | found a e ↦ (let f = every_find active_key (Fair q.scheduler.system_time q.options.payload_limit p) k a q.scheduler.active y.fair.times.each e in
      let s = start_found k q.scheduler a e in
      let l = f.started in let u = f.ahead in
      let m = finish_most q.scheduler.system_time q.options.payload_limit p a f in
      let c : cost (weighted (p a.stream_id)) q.options.payload_limit ≡ cost (weighted (p k)) o.payload_limit =
      ap₂ (λ (x : ℕ) (z : Options). cost (weighted (p x)) z.payload_limit) (find_key active_key k q.scheduler.active a e) y.options in
      record { low = omega arith; high = omega arith })
]

within_same : (n a : ℕ) → Within n a a
within_same n a = record { first = omega arith; second = omega arith }

pub request11_turns : Request11Turns
unfolding Request11Turns
request11_turns o q before during j k s t a = elim (tri j k) [
  | less l ↦ apart (λ g. omega arith)
  | same g ↦ subst (λ (x : ℕ). FairShare q j x during (after before q)) g (within_same (full_cost j q + full_cost j q) (charged (priority_of q j) j (run during (after before q))))
  | more l ↦ apart (λ g. omega arith)
]
  where
    apart : (j ≡ k → ⊥) → FairShare q j k during (after before q)
    apart d =
        let w = reachable_well s.reachable in
        let b = way_before q.options (priority_of q) before during q (record { well = w; options = refl; fair = fair_empty q w s.empty s.interleaved }) t in
        let m = moved_over q.options (priority_of q) j k during (after before q) d b.0 b.1 a in
        let x = near q.options (priority_of q) j (after before q) b.0 in
        let y = near q.options (priority_of q) k (after before q) b.0 in
        let u = near q.options (priority_of q) j (after during (after before q)) m.way in
        let v = near q.options (priority_of q) k (after during (after before q)) m.way in
        let x₁ = x.low in let x₂ = x.high in let y₁ = y.low in let y₂ = y.high in
        let u₁ = u.low in let u₂ = u.high in let v₁ = v.low in let v₂ = v.high in
        let m₁ = m.j_moved in let m₂ = m.k_moved in
        record { first = omega arith; second = omega arith }
