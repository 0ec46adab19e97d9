-- A set of priorities that works by what the calls show is a working set of the model, so none is smaller than the answer. Assumes nothing.
use mathlib.Core.Path.{◌≡◌, refl, sym, ap, ap₂, ◌∙◌, subst}
use mathlib.Core.Bool.{Bool, true, false}
use mathlib.Core.List.{List, [], ◌∷◌, map}
use mathlib.Core.Option.{get_or}
use Prim.Native.Nat.{ℕ, suc, ◌<◌, ◌^◌}
use native.Mathlib.Omega.{arith}
use lib.ListN.{length, replicate, length-replicate}
use Rattle.queue_model.specs.Types as plain
use Rattle.queue_model.specs.Types.{Queue, Outcome, Step, refuse}
use Rattle.queue_model.specs.Streams.{waiting}
use Rattle.queue_model.specs.Run as run
use Rattle.queue_model.specs.Produce.{pass_over, produce_checks, produce}
use Rattle.queue_model.specs.Refusals.{limit_wrong}
use Rattle.queue_model.proofs.Checks.{checked_past}
use Rattle.queue_model.proofs.Invariant.Well.{Well}
use Rattle.queue_model.proofs.Invariant.Fine.{Fine}
use Rattle.queue_model.proofs.Invariant.Sends.{fine_produce}
use Rattle.queue_streams.specs.Answers.{call_number}
use Rattle.queue_runs.specs.Calls.{Typed}
use Rattle.queue_runs.specs.Run.{State}
use Rattle.queue_runs.specs.Meaning.{AllTyped}
use Rattle.queue_runs.specs.Creation.{Arguments, options_with, Creates}
use Rattle.queue_runs.proofs.Translates.{places_words, zero_bytes}
use Rattle.priority_plan.specs.PlannedPriorities.{PlannedPriorities}
use Rattle.priority_plan.specs.Works.{All, Works, PlannedStream, planned_streams}
use Rattle.priority_plan.specs.Lists.{list_wrong, named_twice}
use Rattle.priority_plan.specs.Plan.{planned, refused_plan}
use Rattle.priority_plan.specs.Request.{Answers, Request13Answer}
use Rattle.priority_plan.specs.Jobs as model
use Rattle.priority_plan.specs.Turns as turns
use Rattle.priority_plan.specs.Runs as requests
use Rattle.priority_plan.proofs.Answer.{GoodList, good_list, request13_answer}
use Rattle.priority_plan.proofs.Loading.{loaded_well, loaded_options}
use Rattle.priority_plan.proofs.Live.{asked_passes}
use Rattle.priority_plan.proofs.Only.{request13_only}
use Rattle.priority_plan.proofs.OwnJob.{ids_are, made_of}
use Rattle.queue_plans.specs.Jobs.{Adding, Asking, asking_call, ask, later_call, times, added_later, loaded, addings_of, Timely}
use Rattle.queue_plans.specs.Plans.{KeepsOrder, WorkingSet, Request13Least}
use Rattle.queue_plans.proofs.Calls.{enough_words, asked, asking_of, later_of, asks_link}
use Rattle.queue_plans.proofs.Queues.{Stands, turn_there}
use Rattle.queue_plans.proofs.Loads.{Given, loaded_on, job}

-- ------------------------------------------------------------------ a next fragment of the model, asked for on the code

lent : List ℕ
lent = replicate enough_words 0

asking : model.Asking → Asking
asking x = record { events = lent; buffer = replicate x.size 0; time = x.now; size = x.size }

asking_typed : (o : plain.Options) (x : model.Asking) → requests.Accepts o x → Typed (asking_call (asking x))
unfolding asking lent
asking_typed o x a =
    let e = length-replicate {A = ℕ} enough_words 0 in let b = length-replicate {A = ℕ} x.size 0 in let h = a.size_high in let t = a.time_fits in
    ((omega arith, places_words enough_words), ((omega arith, zero_bytes x.size), (omega arith, omega arith)))

-- It is the model's call, but for what only the checks look at.
asking_accepts : (len : ℕ) (o : plain.Options) (x : model.Asking) → o.store_length ≡ len → requests.Accepts o x → requests.Accepts o (asking_of len (asking x))
unfolding asking lent
asking_accepts len o x e a =
    let m = asked len (asking x) in let l = length-replicate {A = ℕ} enough_words 0 in let b = length-replicate {A = ℕ} x.size 0 in
    let s = m.same_store in let f = m.same_buffer in let t = m.same_time in let z = m.same_size in
    let a₁ = a.time_fits in let a₂ = a.size_low in let a₃ = a.size_high in
    record { store_same = s ∙ sym e; places_enough = m.enough_places (omega arith); time_fits = omega arith; size_low = omega arith; size_high = omega arith; buffer_fits = omega arith }

step_same : (q : Queue) (x y : model.Asking) → requests.Accepts q.options x → requests.Accepts q.options y → x.now ≡ y.now → x.size ≡ y.size → run.step (model.asking_call x) q ≡ run.step (model.asking_call y) q
unfolding run.step produce
step_same q x y a b e f =
    let body : ℕ → ℕ → Step = λ (now size : ℕ). get_or (pass_over (suc (waiting q.streams)) now size q []) (refuse q 16) in
    checked_past (produce_checks x.store x.places x.buffer x.now x.size q) q (body x.now x.size) (asked_passes q x a) ∙ ap₂ body e f
    ∙ sym (checked_past (produce_checks y.store y.places y.buffer y.now y.size q) q (body y.now y.size) (asked_passes q y b))

fine_asked : (x : model.Asking) (q : Queue) → Well q → Fine q (run.step (model.asking_call x) q)
unfolding run.step
fine_asked x q w = fine_produce x.store x.places x.buffer x.now x.size q w

-- The code's next fragments run as the model's.
run_same : (len : ℕ) (o : plain.Options) (xs : List model.Asking) (q : Queue) → Well q → q.options ≡ o → o.store_length ≡ len → All (requests.Accepts o) xs
    → run.run (map model.later_call (map model.ask (map (asking_of len) (map asking xs)))) q ≡ run.run (map model.later_call (map model.ask xs)) q
unfolding run.run asking
run_same len o [] q w e f a = refl
run_same len o (x ∷ xs) q w e f a =
    let y : model.Asking = asking_of len (asking x) in
    let m = asked len (asking x) in
    let accepts : requests.Accepts q.options x = subst (λ (p : plain.Options). requests.Accepts p x) (sym e) a.0 in
    let accepts' : requests.Accepts q.options y = subst (λ (p : plain.Options). requests.Accepts p y) (sym e) (asking_accepts len o x f a.0) in
    let s = step_same q y x accepts' accepts m.same_time m.same_size in
    let k = fine_asked x q w in
    ap₂ (λ (u : Outcome) (us : List Outcome). u ∷ us) (ap (λ (z : Step). z.outcome) s)
    (ap (λ (z : Step). run.run (map model.later_call (map model.ask (map (asking_of len) (map asking xs)))) z.next) s ∙ run_same len o xs (run.step (model.asking_call x) q).next k.next_well (k.same_options ∙ e) f a.1)

-- ------------------------------------------------------------------ all of them in time

asks_typed : (o : plain.Options) (xs : List model.Asking) → All (requests.Accepts o) xs → AllTyped (map later_call (map ask (map asking xs)))
asks_typed o [] a = tt
asks_typed o (x ∷ xs) a = (asking_typed o x a.0, asks_typed o xs a.1)

none_added : (xs : List Asking) → added_later (map ask xs) ≡ []
none_added [] = refl
none_added (x ∷ xs) = none_added xs

asks_last : (as' : List model.Adding) (xs : List model.Asking) → All (λ (x : model.Asking). turns.Lasting x.now as') xs → All (λ (t : ℕ). turns.Lasting t as' × turns.Lasting t []) (times (map ask (map asking xs)))
unfolding asking
asks_last as' [] a = tt
asks_last as' (x ∷ xs) a = ((a.0, tt), asks_last as' xs a.1)

asks_timely : (len : ℕ) (o : plain.Options) (ms : List Adding) (xs : List model.Asking) → All (requests.Accepts o) xs → All (λ (x : model.Asking). turns.Lasting x.now (addings_of len ms)) xs → Timely len ms (map ask (map asking xs))
asks_timely len o ms xs a l = record {
  typed = asks_typed o xs a;
  lasting = subst (λ (bs : List Adding). All (λ (t : ℕ). turns.Lasting t (addings_of len ms) × turns.Lasting t (addings_of len bs)) (times (map ask (map asking xs)))) (sym (none_added (map asking xs))) (asks_last (addings_of len ms) xs l);
}

-- ------------------------------------------------------------------ the theorem

-- Priorities that keep the order on the code are a working set.
works : (a : Arguments) (s : State) (ids sizes qs : List ℕ) (ms : List Adding) → Creates a s → All (λ (i : ℕ). i < 2 ^ 16) ids → GoodList ids sizes → WorkingSet a s ids sizes qs ms → Works a.limit (planned_streams ids sizes) qs
unfolding KeepsOrder requests.Request13Only
works a s ids sizes qs ms c f r k = request13_only o hs qs ss as' j k.allowed (subst (λ (l : List ℕ). named_twice l ≡ false) (sym si) r.distinct) every
  where
    len : ℕ
    len = length s.store

    o : plain.Options
    o = options_with a (length s.store)

    hs : List PlannedStream
    hs = planned_streams ids sizes

    ss : List model.Setting
    ss = requests.plan_settings (planned_streams ids sizes) qs

    as' : List model.Adding
    as' = addings_of (length s.store) ms

    g : Given a s ids sizes qs
    g = record { creates = c; ids_fit = f; right = r; one_each = k.one_each; allowed = k.allowed }

    j : model.Job o hs qs ss as'
    j = job a s ids sizes qs g ms k.load

    n : Stands len (model.loaded o ss as') (loaded a s ids qs ms)
    n = loaded_on a s ids sizes qs g ms k.load

    si : turns.stream_ids hs ≡ ids
    si = ids_are ids sizes r.same_count

    every : (xs : List model.Asking) → All (requests.Accepts o) xs → All (λ (x : model.Asking). turns.Lasting x.now as') xs → turns.InTurn (turns.stream_ids hs) (run.run (map model.later_call (map model.ask xs)) (model.loaded o ss as'))
    every xs b l =
        let q : Queue = model.loaded o ss as' in
        let t = asks_timely len o ms xs b l in
        let here = k.keeps_order (map ask (map asking xs)) t in
        let there = turn_there len q (loaded a s ids qs ms) ids (map ask (map asking xs)) n t.typed here in
        let same : run.run (map model.later_call (map (later_of len) (map ask (map asking xs)))) q ≡ run.run (map model.later_call (map model.ask xs)) q =
        ap (λ (ys : List model.Later). run.run (map model.later_call ys) q) (asks_link len (map asking xs)) ∙ run_same len o xs q (loaded_well o hs qs ss as' j) (loaded_options o hs qs ss as' j) refl b in
        subst (λ (l : List ℕ). turns.InTurn l (run.run (map model.later_call (map model.ask xs)) q)) (sym si) (subst (λ (os : List Outcome). turns.InTurn ids os) same there)

-- A refusal has one number.
one_number : (n : ℕ) → (n ≡ 29 → ⊥) → refused_plan n ≡ refused_plan 29 → ⊥
one_number n d e = d (ap (λ (r : PlannedPriorities). call_number r.answer) e)

-- Where the answer is 29 no set works.
none_works : (a : Arguments) (s : State) (ids sizes qs : List ℕ) (ms : List Adding) → Creates a s → All (λ (i : ℕ). i < 2 ^ 16) ids → planned a.limit ids sizes ≡ refused_plan 29 → WorkingSet a s ids sizes qs ms → ⊥
unfolding Request13Answer
none_works a s ids sizes qs ms c f e k = go (limit_wrong a.limit).applies refl (list_wrong ids sizes) refl
  where
    r : Answers a.limit ids sizes (planned a.limit ids sizes)
    r = request13_answer a.limit ids sizes

    go : (x : Bool) → (limit_wrong a.limit).applies ≡ x → (y : Bool) → list_wrong ids sizes ≡ y → ⊥
    go true ex y ey = one_number 1 (λ z. omega arith) (sym (r.wrong_limit ex) ∙ e)
    go false ex true ey = one_number 28 (λ z. omega arith) (sym (r.wrong_list ex ey) ∙ e)
    go false ex false ey = (r.none_exactly ex ey).0 e qs (works a s ids sizes qs ms c f (good_list ids sizes ey) k)

-- Request 13/13 on the code: the priorities given are the least.
pub request13_least : Request13Least
unfolding Request13Least
request13_least a s ids sizes c f = record {
  least = λ ps qs ms e k. (let m = made_of a.limit ids sizes ps e in m.set.least qs (works a s ids sizes qs ms c f m.good k));
  none_works = λ qs ms e k. none_works a s ids sizes qs ms c f e k;
}
