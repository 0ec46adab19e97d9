-- More next fragments than bytes wait, none of them refused: every stream of the list gets its first fragment. Assumes nothing.
use mathlib.Core.Path.{◌≡◌, refl, sym, ap, ap₂, ◌∙◌, subst}
use mathlib.Core.Bool.{true, false}
use mathlib.Core.List.{List, [], ◌∷◌, map}
use mathlib.Core.Option.{Option, none, some}
use Prim.Native.Nat.{ℕ}
use native.Mathlib.Omega.{arith}
use lib.Dec.{eqb, ltb, eqb→eq}
use lib.ListN.{length, length-map}
use borrow.Author.Tests.{not-false}
use Rattle.queue_model.specs.Types as plain
use Rattle.queue_model.specs.Types.{Queue, Outcome, Step}
use Rattle.queue_model.specs.Run as run
use Rattle.queue_model.specs.FairTurns.{none_expired}
use Rattle.queue_model.specs.Produce.{produce_checks, produce}
use Rattle.queue_model.specs.Refusals.{Check, first_refusal, refused_or, checked, max_payload, max_time, event_places}
use Rattle.queue_model.proofs.Tests.{holds}
use Rattle.queue_model.proofs.Checks.{or_left, or_right, not_less, Passed, all_passed}
use Rattle.linked_streams.proofs.Asks.{total_asked}
use Rattle.linked_sending.specs.Meaning.{produced_of}
use Rattle.queue_runs.specs.Calls.{Call, sent, Shown}
use Rattle.queue_runs.specs.Run as runs
use Rattle.queue_runs.specs.Run.{State, step}
use Rattle.queue_runs.specs.Meaning.{queue_of, GoodState, AllTyped}
use Rattle.queue_runs.specs.Creation.{Arguments, options_with}
use Rattle.queue_runs.specs.Refusals.{refusal}
use Rattle.queue_runs.proofs.Steps.{step_link, meant, fine}
use Rattle.priority_plan.specs.Works.{All, Works, planned_streams}
use Rattle.priority_plan.specs.Jobs as model
use Rattle.priority_plan.specs.Turns as turns
use Rattle.priority_plan.specs.Runs as requests
use Rattle.priority_plan.proofs.Loading.{loaded_options}
use Rattle.priority_plan.proofs.Only.{request13_served}
use Rattle.priority_plan.proofs.OwnJob.{ids_are, job_lasting}
use Rattle.queue_plans.specs.Jobs.{Adding, Asking, asking_call, ask, later_call, loaded, addings_of, Load}
use Rattle.queue_plans.specs.FirstFragments.{streams_shown}
use Rattle.queue_plans.specs.Plans.{ServesAll}
use Rattle.queue_plans.proofs.Calls.{asked, asking_of, later_of, asks_same, asks_link}
use Rattle.queue_plans.proofs.Queues.{streams_on}
use Rattle.queue_plans.proofs.Loads.{Given, loaded_on, job, lasts}

-- ------------------------------------------------------------------ one next fragment

-- A call that is not refused is past its checks.
unrefused_passed : (cs : List Check) (q : Queue) (s : Step) → ((n : ℕ) → (checked cs q s).outcome.answer ≡ plain.refused n → ⊥) → Passed cs
unfolding checked refused_or
unrefused_passed cs q s h = go (first_refusal cs) refl h
  where
    go : (x : Option ℕ) → first_refusal cs ≡ x → ((n : ℕ) → (refused_or x q s).outcome.answer ≡ plain.refused n → ⊥) → Passed cs
    go none e f = all_passed cs e
    go (some n) e f = absurd (f n refl)

unrefused_accepts : (q : Queue) (x : model.Asking) → ((n : ℕ) → (run.step (model.asking_call x) q).outcome.answer ≡ plain.refused n → ⊥) → requests.Accepts q.options x
unfolding run.step produce
unrefused_accepts q x h =
    let p = unrefused_passed (produce_checks x.store x.places x.buffer x.now x.size q) q _ h in
    record {
      store_same = eqb→eq x.store q.options.store_length (holds (eqb x.store q.options.store_length) (not-false (eqb x.store q.options.store_length) p.0));
      places_enough = not_less x.places event_places p.1.0;
      time_fits = not_less max_time x.now p.1.1.0;
      size_low = not_less x.size 1 (or_left (ltb x.size 1) (ltb max_payload x.size) p.1.1.1.0);
      size_high = not_less max_payload x.size (or_right (ltb x.size 1) (ltb max_payload x.size) p.1.1.1.0);
      buffer_fits = not_less x.buffer x.size p.1.1.1.1.0;
    }

-- The model's is not refused where this one is not.
unrefused : (o : Outcome) → refusal (sent (produced_of o.answer (length o.events))) ≡ false → (n : ℕ) → o.answer ≡ plain.refused n → ⊥
unrefused o e n f = holds false (sym e ∙ ap (λ (a : plain.Answer). refusal (sent (produced_of a (length o.events)))) f)

asking_accepts : (x : Asking) (s : State) → GoodState s → AllTyped (asking_call x ∷ []) → refusal (step (asking_call x) s).shows.answer ≡ false → requests.Accepts (queue_of s).options (asking_of (length s.store) x)
asking_accepts x s g t r =
    let m = asked (length s.store) x in
    let e : refusal (sent (produced_of (meant (asking_call x) s).outcome.answer (length (meant (asking_call x) s).outcome.events))) ≡ false = ap (λ (o : Shown). refusal o.answer) (sym (step_link (asking_call x) s g t.0).shows_are) ∙ r in
    unrefused_accepts (queue_of s) m.asking (subst (λ (c : run.Call). (n : ℕ) → (run.step c (queue_of s)).outcome.answer ≡ plain.refused n → ⊥) m.same_call (unrefused (meant (asking_call x) s).outcome e))

-- ------------------------------------------------------------------ lists of them

accepts_all : (xs : List Asking) (s : State) (len : ℕ) (o : plain.Options) → GoodState s → length s.store ≡ len → (queue_of s).options ≡ o → AllTyped (map asking_call xs) → All (λ (x : Shown). refusal x.answer ≡ false) (runs.run (map asking_call xs) s) → All (requests.Accepts o) (map (asking_of len) xs)
unfolding runs.run
accepts_all [] s len o g e f t r = tt
accepts_all (x ∷ xs) s len o g e f t r =
    let h = step_link (asking_call x) s g t.0 in
    let k = fine (asking_call x) s g t.0 in (
      subst (λ (n : ℕ). requests.Accepts o (asking_of n x)) e (subst (λ (p : plain.Options). requests.Accepts p (asking_of (length s.store) x)) f (asking_accepts x s g (t.0, tt) r.0)),
      accepts_all xs (step (asking_call x) s).next len o h.good (h.same_store ∙ e) (ap (λ (q : Queue). q.options) h.next_is ∙ k.same_options ∙ f) t.1 r.1,
    )

at_times : (P : ℕ → Type 0) (xs : List model.Asking) → All P (model.times (map model.ask xs)) → All (λ (x : model.Asking). P x.now) xs
at_times P [] a = tt
at_times P (x ∷ xs) a = (a.0, at_times P xs a.1)

-- ------------------------------------------------------------------ the theorem

pub serves_all : (a : Arguments) (s : State) (ids sizes ps : List ℕ) (ms : List Adding) → Given a s ids sizes ps → Works a.limit (planned_streams ids sizes) ps → Load a s ids sizes ps ms → ServesAll a s ids ps ms
unfolding ServesAll requests.Request13Served
serves_all a s ids sizes ps ms g w l xs t r h =
    let len : ℕ = length s.store in
    let o : plain.Options = options_with a (length s.store) in
    let hs = planned_streams ids sizes in
    let ss = requests.plan_settings (planned_streams ids sizes) ps in
    let as' = addings_of (length s.store) ms in
    let q : Queue = model.loaded o ss as' in
    let ys : List model.Asking = map (asking_of len) xs in
    let n = loaded_on a s ids sizes ps g ms l in
    let j = job a s ids sizes ps g ms l in
    let same : map later_call (map ask xs) ≡ map asking_call xs = asks_same xs in
    let there : map (later_of len) (map ask xs) ≡ map model.ask (map (asking_of len) xs) = asks_link len xs in
    let options_are : (queue_of (loaded a s ids ps ms)).options ≡ o = ap (λ (x : Queue). x.options) n.queue_is ∙ loaded_options o hs ps ss as' j in
    let accepts : All (requests.Accepts o) (map (asking_of len) xs) = accepts_all xs (loaded a s ids ps ms) len o n.good n.store_is options_are (subst AllTyped same t.typed) r in
    let lasting = job_lasting o hs ps ss as' (model.added_later (map (later_of len) (map ask xs))) j (model.times (map (later_of len) (map ask xs))) (lasts len q (loaded a s ids ps ms) ms (map ask xs) n t).all_last in
    let lasting' = at_times (λ (i : ℕ). none_expired i q ≡ true) ys (subst (λ (zs : List model.Later). All (λ (i : ℕ). none_expired i q ≡ true) (model.times zs)) there lasting) in
    let b = length-map xs (asking_of len) in
    let c : (queue_of (loaded a s ids ps ms)).total ≡ q.total = ap (λ (x : Queue). x.total) n.queue_is in
    let d = total_asked (loaded a s ids ps ms).words (loaded a s ids ps ms).store in
    let served = request13_served o hs ps ss as' ys j w accepts lasting' (omega arith) in
    let si : turns.stream_ids (planned_streams ids sizes) ≡ ids = ids_are ids sizes g.right.same_count in
    let shown : streams_shown (runs.run (map asking_call xs) (loaded a s ids ps ms)) ≡ turns.streams_shown (run.run (map model.later_call (map model.ask (map (asking_of len) xs))) q) =
    ap (λ (cs : List Call). streams_shown (runs.run cs (loaded a s ids ps ms))) (sym same) ∙ streams_on len q (loaded a s ids ps ms) (map ask xs) n t.typed ∙ ap (λ (zs : List model.Later). turns.streams_shown (run.run (map model.later_call zs) q)) there in
    ap₂ turns.firsts (sym si) shown ∙ served ∙ si
