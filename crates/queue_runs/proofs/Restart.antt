-- After a strict reset the first fragment of every stream starts afresh (request 6/13), on the code. Assumes nothing.
use mathlib.Core.Path.{◌≡◌, refl, sym, ap, ap₂, subst, ◌∙◌}
use mathlib.Core.Bool.{Bool, true, false}
use mathlib.Core.List.{List, [], ◌∷◌, ◌++◌, map}
use Prim.Native.Nat.{ℕ}
use native.Mathlib.Omega.{arith}
use lib.Dec.{eqb}
use lib.ListN.{length}
use Rattle.types.specs.declared.StreamId.{StreamId}
use Rattle.queue_words.specs.Flags.{pick}
use Rattle.queue_words.specs.Header.{is_strict}
use Rattle.std.specs.Prelude.{if◌then◌else◌}
use Rattle.queue_model.specs.Types as plain
use Rattle.queue_model.specs.Types.{Queue, Outcome, Fragment}
use Rattle.queue_model.specs.Answers.{fragments_in, of_stream}
use Rattle.queue_model.specs.Run as run
use Rattle.queue_model.specs.Restart as model
use Rattle.queue_model.proofs.Restart as theorem
use Rattle.queue_streams.specs.Call as call
use Rattle.queue_sending.specs.declared.data.DataToSend.{DataToSend}
use Rattle.linked_sending.specs.Meaning.{data_of}
use Rattle.queue_runs.specs.Calls.{Call, add, produce, fill, discard, close, ready_ids, commit, rollback, reset, set_threshold, set_priority, set_interleaving, restore, ask_priority, ask_amount, ask_threshold, ask_total, ask_empty, ask_has_data, ask_streams_ready, ask_ready_count, ask_readiness, ask_room, call_of, Typed, Shown, called}
use Rattle.queue_runs.specs.Run as runs
use Rattle.queue_runs.specs.Run.{State, step}
use Rattle.queue_runs.specs.Meaning.{queue_of, GoodState, AllTyped, calls_of, quiet_of}
use Rattle.queue_runs.specs.Creation.{options_with}
use Rattle.queue_runs.specs.Restart.{of_stream_words, fragments, FirstAfresh, NotRestored, NoneRestored, Request6Starts}
use Rattle.queue_runs.proofs.Steps.{step_link, typed_call, store_small, meant}
use Rattle.queue_runs.proofs.Forms.{Quiet, quiet_refused, quiet_done, form_of}
use Rattle.queue_runs.proofs.Demand3.{stands}
use Rattle.queue_runs.proofs.Alike.{all_typed}
use Rattle.queue_runs.proofs.Fragments.{data_append, step_data}
use Rattle.queue_runs.proofs.MidMessage.{done_accepted}
use Rattle.queue_runs.proofs.Account.{key_same}

-- ------------------------------------------------------------------ what a call shows

module _ (k : ℕ) where
  -- The fragments of stream k.
  own : (fs : List Fragment) → of_stream_words k (map data_of fs) ≡ map data_of (of_stream k fs)
  own [] = refl
  own (f ∷ fs) =
      ap (λ (x : StreamId). pick (eqb x.0 k) (data_of f ∷ of_stream_words k (map data_of fs)) (of_stream_words k (map data_of fs))) (key_same f.unordered (record { 0 = f.stream_id }))
      ∙ ap (λ (ds : List DataToSend). pick (eqb f.stream_id k) (data_of f ∷ ds) ds) (own fs) ∙ picked (eqb f.stream_id k) (of_stream k fs)
    where
      picked : (b : Bool) (gs : List Fragment) → pick b (data_of f ∷ map data_of gs) (map data_of gs) ≡ map data_of (if b then f ∷ gs else gs)
      picked true gs = refl
      picked false gs = refl

  -- ---------------------------------------------------------------- lists of calls

  -- The fragments that calls show are those that the model's show.
  run_data : (cs : List Call) (s : State) → GoodState s → AllTyped cs → fragments k (runs.run cs s) ≡ map data_of (model.fragments k (run.run (calls_of (length s.store) cs) (queue_of s)))
  unfolding fragments runs.run model.fragments run.run
  run_data [] s g t = refl
  run_data (c ∷ cs) s g t =
      let h = step_link c s g t.0 in
      let e : calls_of (length (step c s).next.store) cs ≡ calls_of (length s.store) cs = ap (λ (n : ℕ). calls_of n cs) h.same_store in
      ap₂ ◌++◌ (ap (of_stream_words k) (step_data c s g t.0) ∙ own (fragments_in (meant c s).outcome.answer)) (run_data cs (step c s).next h.good t.1 ∙ ap₂ (λ (ms : List run.Call) (q : Queue). map data_of (model.fragments k (run.run ms q))) e h.next_is)
      ∙ sym (data_append (of_stream k (fragments_in (meant c s).outcome.answer)) (model.fragments k (run.run (calls_of (length s.store) cs) (meant c s).next)))

first_afresh : (fs : List Fragment) → model.FirstAfresh fs → FirstAfresh (map data_of fs)
first_afresh [] a = tt
first_afresh (f ∷ fs) a = record { first = a.first; mid = a.mid; ssn = a.ssn; fsn = a.fsn }

-- ------------------------------------------------------------------ no restoring

not_restored : (c : Call) (s : State) → GoodState s → Typed c → NotRestored c s → model.NotRestored (call_of (length s.store) c) (queue_of s)
not_restored (add time m payload) s g t n = (λ x y z e d. let u : ◌≡◌ {A = ℕ} 0 1 = cc in omega arith, λ a b c d k e. let u : ◌≡◌ {A = ℕ} 0 1 = cc in omega arith)
not_restored (produce es bs time size) s g t n = (λ x y z e d. let u : ◌≡◌ {A = ℕ} 0 1 = cc in omega arith, λ a b c d k e. let u : ◌≡◌ {A = ℕ} 0 1 = cc in omega arith)
not_restored (fill es bs time p) s g t n = absurd (n.1 es bs time p refl)
not_restored (discard es id m) s g t n = (λ x y z e d. let u : ◌≡◌ {A = ℕ} 0 1 = cc in omega arith, λ a b c d k e. let u : ◌≡◌ {A = ℕ} 0 1 = cc in omega arith)
not_restored (close es id) s g t n = (λ x y z e d. let u : ◌≡◌ {A = ℕ} 0 1 = cc in omega arith, λ a b c d k e. let u : ◌≡◌ {A = ℕ} 0 1 = cc in omega arith)
not_restored ready_ids s g t n = (λ x y z e d. let u : ◌≡◌ {A = ℕ} 0 1 = cc in omega arith, λ a b c d k e. let u : ◌≡◌ {A = ℕ} 0 1 = cc in omega arith)
not_restored commit s g t n = (λ x y z e d. let u : ◌≡◌ {A = ℕ} 0 1 = cc in omega arith, λ a b c d k e. let u : ◌≡◌ {A = ℕ} 0 1 = cc in omega arith)
not_restored rollback s g t n = (λ x y z e d. let u : ◌≡◌ {A = ℕ} 0 1 = cc in omega arith, λ a b c d k e. let u : ◌≡◌ {A = ℕ} 0 1 = cc in omega arith)
not_restored reset s g t n = (λ x y z e d. let u : ◌≡◌ {A = ℕ} 0 1 = cc in omega arith, λ a b c d k e. let u : ◌≡◌ {A = ℕ} 0 1 = cc in omega arith)
not_restored (set_threshold es id v) s g t n = (λ x y z e d. let u : ◌≡◌ {A = ℕ} 0 1 = cc in omega arith, λ a b c d k e. let u : ◌≡◌ {A = ℕ} 0 1 = cc in omega arith)
not_restored (set_priority id p) s g t n = (λ x y z e d. let u : ◌≡◌ {A = ℕ} 0 1 = cc in omega arith, λ a b c d k e. let u : ◌≡◌ {A = ℕ} 0 1 = cc in omega arith)
not_restored (set_interleaving b) s g t n = (λ x y z e d. let u : ◌≡◌ {A = ℕ} 0 1 = cc in omega arith, λ a b c d k e. let u : ◌≡◌ {A = ℕ} 0 1 = cc in omega arith)
not_restored (restore time image) s g t n = (λ x y z e d. n.0 time image refl (done_accepted time image s g t d), λ a b c d k e. let u : ◌≡◌ {A = ℕ} 0 1 = cc in omega arith)
not_restored (ask_priority id) s g t n = (λ x y z e d. let u : ◌≡◌ {A = ℕ} 0 1 = cc in omega arith, λ a b c d k e. let u : ◌≡◌ {A = ℕ} 0 1 = cc in omega arith)
not_restored (ask_amount id) s g t n = (λ x y z e d. let u : ◌≡◌ {A = ℕ} 0 1 = cc in omega arith, λ a b c d k e. let u : ◌≡◌ {A = ℕ} 0 1 = cc in omega arith)
not_restored (ask_threshold id) s g t n = (λ x y z e d. let u : ◌≡◌ {A = ℕ} 0 1 = cc in omega arith, λ a b c d k e. let u : ◌≡◌ {A = ℕ} 0 1 = cc in omega arith)
not_restored ask_total s g t n = (λ x y z e d. let u : ◌≡◌ {A = ℕ} 0 1 = cc in omega arith, λ a b c d k e. let u : ◌≡◌ {A = ℕ} 0 1 = cc in omega arith)
not_restored ask_empty s g t n = (λ x y z e d. let u : ◌≡◌ {A = ℕ} 0 1 = cc in omega arith, λ a b c d k e. let u : ◌≡◌ {A = ℕ} 0 1 = cc in omega arith)
not_restored ask_has_data s g t n = (λ x y z e d. let u : ◌≡◌ {A = ℕ} 0 1 = cc in omega arith, λ a b c d k e. let u : ◌≡◌ {A = ℕ} 0 1 = cc in omega arith)
not_restored ask_streams_ready s g t n = (λ x y z e d. let u : ◌≡◌ {A = ℕ} 0 1 = cc in omega arith, λ a b c d k e. let u : ◌≡◌ {A = ℕ} 0 1 = cc in omega arith)
not_restored ask_ready_count s g t n = (λ x y z e d. let u : ◌≡◌ {A = ℕ} 0 1 = cc in omega arith, λ a b c d k e. let u : ◌≡◌ {A = ℕ} 0 1 = cc in omega arith)
not_restored ask_readiness s g t n = (λ x y z e d. let u : ◌≡◌ {A = ℕ} 0 1 = cc in omega arith, λ a b c d k e. let u : ◌≡◌ {A = ℕ} 0 1 = cc in omega arith)
not_restored (ask_room r) s g t n = (λ x y z e d. let u : ◌≡◌ {A = ℕ} 0 1 = cc in omega arith, λ a b c d k e. let u : ◌≡◌ {A = ℕ} 0 1 = cc in omega arith)

none_restored : (cs : List Call) (s : State) → GoodState s → AllTyped cs → NoneRestored cs s → model.NoneRestored (calls_of (length s.store) cs) (queue_of s)
none_restored [] s g t n = tt
none_restored (c ∷ cs) s g t n =
    let h = step_link c s g t.0 in (
      not_restored c s g t.0 n.0,
      subst (λ (q : Queue). model.NoneRestored (calls_of (length s.store) cs) q) h.next_is
          (subst (λ (x : ℕ). model.NoneRestored (calls_of x cs) (queue_of (step c s).next)) h.same_store (none_restored cs (step c s).next h.good t.1 n.1)),
    )

-- ------------------------------------------------------------------ THE THEOREM

done_shown : (o : Outcome) → Quiet o → o.answer ≡ plain.done → (quiet_of o).answer ≡ called (call.Accepted 0)
done_shown o (quiet_refused n) e = let z : ◌≡◌ {A = ℕ} 0 1 = cc in absurd (omega arith)
done_shown o quiet_done e = refl

pub request6_starts : Request6Starts
unfolding Request6Starts model.Request6Starts
request6_starts a len s cs k e r t n =
    let w = stands a len s r in
    let l : ℕ = length s.store in
    let h = step_link reset s w.good tt in
    let ms : List run.Call = calls_of l cs in
    let m = theorem.request6_starts (options_with a len) (queue_of s) ms k (ap is_strict e) w.reachable (all_typed l cs (λ c u. typed_call l c (store_small s w.good) u) t) (subst (λ (q : Queue). model.NoneRestored ms q) h.next_is (subst (λ (x : ℕ). model.NoneRestored (calls_of x cs) (queue_of (step reset s).next)) h.same_store (none_restored cs (step reset s).next h.good t n))) in
    let same : run.run (calls_of (length (step reset s).next.store) cs) (queue_of (step reset s).next) ≡ run.run ms (meant reset s).next = ap₂ run.run (ap (λ (x : ℕ). calls_of x cs) h.same_store) h.next_is in
    record {
      accepted = ap (λ (x : Shown). x.answer) h.shows_are ∙ done_shown (meant reset s).outcome (form_of run.reset (queue_of s)) m.accepted;
      starts = subst FirstAfresh (sym (run_data k cs (step reset s).next h.good t ∙ ap (λ (os : List Outcome). map data_of (model.fragments k os)) same)) (first_afresh (model.fragments k (run.run ms (meant reset s).next)) m.starts);
    }
