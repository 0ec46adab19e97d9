-- A queue that never had interleaving remembers the stream in mid-message, and sends its rest first: document 02's 10/13 on the code. Assumes nothing.
use Rattle.std.specs.Prelude.{Some, None}
use mathlib.Core.Path.{◌≡◌, refl, sym, ap, subst, ◌∙◌}
use mathlib.Core.Bool.{false}
use mathlib.Core.Option.{Option, some}
use mathlib.Core.List.{List}
use Prim.Native.Nat.{ℕ}
use native.Mathlib.Omega.{arith}
use lib.ListN.{length}
use Rattle.types.specs.declared.StreamId.{StreamId}
use Rattle.queue_model.specs.Types as plain
use Rattle.queue_model.specs.Types.{Item, Fragment, Outcome}
use Rattle.queue_model.specs.Image.{Handover}
use Rattle.queue_model.specs.Waiting.{is_waiting}
use Rattle.queue_model.specs.MidMessage as model
use Rattle.queue_model.specs.MidMessage.{AtMostOne}
use Rattle.queue_model.specs.Unbroken as rest
use Rattle.queue_model.proofs.Invariant.MidMessage.{request10_remembered}
use Rattle.queue_model.proofs.Invariant.Unbroken.{request10_rest}
use Rattle.queue_words.specs.Header.{scheduler_at}
use Rattle.queue_streams.specs.Events.{places_in}
use Rattle.stream_scheduler.specs.Link.{current_of, model_scheduler}
use Rattle.queue_sending.specs.declared.data.DataToSend.{DataToSend}
use Rattle.queue_sending.specs.Produced as produced
use Rattle.queue_state.specs.Promise as promise
use Rattle.queue_state.proofs.Singles.{model_schedules}
use Rattle.linked_sending.specs.Meaning.{data_of}
use Rattle.queue_words.specs.Header.{Remembered}
use Rattle.queue_runs.specs.Calls.{Call, add, produce, fill, discard, close, ready_ids, commit, rollback, reset, set_threshold, set_priority, set_interleaving, restore, ask_priority, ask_amount, ask_threshold, ask_total, ask_empty, ask_has_data, ask_streams_ready, ask_ready_count, ask_readiness, ask_room, call_of, Typed, Shown, called, sent}
use Rattle.queue_runs.specs.Run.{State, step}
use Rattle.queue_runs.specs.Meaning.{queue_of, GoodState, sent_of}
use Rattle.queue_runs.specs.Creation.{Arguments, options_with, new_state}
use Rattle.queue_runs.specs.Refusals.{refusal}
use Rattle.queue_runs.specs.MidMessage.{Uninterleaved, NeverInterleaved, at_first, later, Request10Remembered, RestOf, Request10Rest}
use Rattle.queue_runs.proofs.Steps.{step_link, typed_call, store_small, meant}
use Rattle.queue_runs.proofs.News.{new_link}
use Rattle.queue_runs.proofs.Forms.{Sent, sent_refused, sent_nothing, sent_fragment, form_of}
use Rattle.queue_runs.proofs.Account.{key_same}

-- ------------------------------------------------------------------ such queues

-- They are good and stand for the model's such queues.
pub record Stands (o : plain.Options) (len : ℕ) (s : State) : Type 0 where
  pub good : GoodState s
  pub never : model.NeverInterleaved o (queue_of s)
  pub store_is : length s.store ≡ len

-- A restoring that is done is not refused.
pub done_accepted : (time : ℕ) (image : List ℕ) (s : State) → GoodState s → Typed (restore time image) → (meant (restore time image) s).outcome.answer ≡ plain.done → refusal (step (restore time image) s).shows.answer ≡ false
done_accepted time image s g t e =
    let o = (meant (restore time image) s).outcome in
    ap (λ (x : Shown). refusal x.answer) (step_link (restore time image) s g t).shows_are ∙ ap (λ (x : plain.Answer). refusal (called (promise.call_of x (length o.events)))) e

pub uninterleaved : (F : Type 0) (P : Option Handover → Type 0) (c : Call) (s : State) → GoodState s → Typed c → Uninterleaved F P c s → model.Uninterleaved F P (call_of (length s.store) c) (queue_of s)
uninterleaved F P (add time m payload) s g t u = u
uninterleaved F P (produce es bs time size) s g t u = u
uninterleaved F P (fill es bs time p) s g t u = u
uninterleaved F P (discard es id k) s g t u = u
uninterleaved F P (close es id) s g t u = u
uninterleaved F P ready_ids s g t u = u
uninterleaved F P commit s g t u = u
uninterleaved F P rollback s g t u = u
uninterleaved F P reset s g t u = u
uninterleaved F P (set_threshold es id n) s g t u = u
uninterleaved F P (set_priority id p) s g t u = u
uninterleaved F P (set_interleaving b) s g t u = u
uninterleaved F P (restore time image) s g t u = λ e. u (done_accepted time image s g t e)
uninterleaved F P (ask_priority id) s g t u = u
uninterleaved F P (ask_amount id) s g t u = u
uninterleaved F P (ask_threshold id) s g t u = u
uninterleaved F P ask_total s g t u = u
uninterleaved F P ask_empty s g t u = u
uninterleaved F P ask_has_data s g t u = u
uninterleaved F P ask_streams_ready s g t u = u
uninterleaved F P ask_ready_count s g t u = u
uninterleaved F P ask_readiness s g t u = u
uninterleaved F P (ask_room r) s g t u = u

never_stands : {a : Arguments} {len : ℕ} {s : State} → NeverInterleaved a len s → Stands (options_with a len) len s
never_stands {a} {len} (at_first {before = b} c e) =
    let n = new_link a b c in
    subst (λ (k : ℕ). Stands (options_with a k) k (new_state a b)) e
    (record { good = n.good; never = subst (model.NeverInterleaved (options_with a (length b.store))) (sym n.queue_is) (model.at_first n.created); store_is = refl })
never_stands {a} {len} (later {s = s} n c t u) =
    let h = never_stands n in
    let k = step_link c s h.good t in
    record {
      good = k.good;
      never = subst (model.NeverInterleaved (options_with a len)) (sym k.next_is) (model.later h.never (call_of (length s.store) c) (typed_call (length s.store) c (store_small s h.good) t) (uninterleaved (Unit {0}) AtMostOne c s h.good t u));
      store_is = k.same_store ∙ h.store_is;
    }

-- ------------------------------------------------------------------ the remembered stream

current_back : (c : Remembered) (k : ℕ) → current_of c ≡ some k → c ≡ Some (record { 0 = k })
unfolding current_of
current_back None k e = let z : ◌≡◌ {A = ℕ} 0 1 = cc in absurd (omega arith)
current_back (Some id) k e = let z : id.0 ≡ k = cc in λ p. Some (record { 0 = z p })

schedules_current : (ws : List ℕ) → (model_scheduler ws).current ≡ current_of (scheduler_at ws).current
unfolding model_scheduler
schedules_current ws = refl

pub remembered : Request10Remembered
unfolding Request10Remembered model.Request10Remembered is_waiting
remembered a len s k x n f h w =
    let m = never_stands n in
    current_back (scheduler_at s.words).current k
    (sym (ap (λ (y : plain.Scheduler). y.current) (model_schedules s.words s.store) ∙ schedules_current s.words) ∙ request10_remembered (options_with a len) (queue_of s) k x m.never f h w)

-- ------------------------------------------------------------------ the next fragment

rest_shown : (k : ℕ) (i : Item) (f : Fragment) → rest.RestOf k i f → RestOf k i (data_of f)
rest_shown k i f r = record { its_stream = ap (λ (x : StreamId). x.0) (key_same f.unordered (record { 0 = f.stream_id })) ∙ r.its_stream; its_message = r.its_message; not_first = r.not_first }

-- The fragment that is shown is the model's.
shown_rest : (k : ℕ) (i : Item) (es bs : List ℕ) (n : ℕ) (d : DataToSend) (o : Outcome) → Sent o → (sent_of es bs o).answer ≡ sent (produced.Fragment n d) → ((g : Fragment) → o.answer ≡ plain.fragment g → rest.RestOf k i g) → RestOf k i d
shown_rest k i es bs n d o (sent_refused r) e h = let z : ◌≡◌ {A = ℕ} 0 1 = cc in absurd (omega arith)
shown_rest k i es bs n d o (sent_nothing vs) e h = let z : ◌≡◌ {A = ℕ} 0 1 = cc in absurd (omega arith)
shown_rest k i es bs n d o (sent_fragment f vs) e h = let z : data_of f ≡ d = cc in subst (RestOf k i) z (rest_shown k i f (h f refl))

pub rest_first : Request10Rest
unfolding Request10Rest rest.Request10Rest
rest_first a len s k x i is es bs time size n d v f j z e t g =
    let m = never_stands v in
    let o = (meant (produce es bs time size) s).outcome in
    shown_rest k i es bs n d o (form_of (call_of (length s.store) (produce es bs time size)) (queue_of s)) (sym (ap (λ (y : Shown). y.answer) (step_link (produce es bs time size) s m.good t).shows_are) ∙ g)
    (λ h y. request10_rest (options_with a len) (queue_of s) k x i is (length s.store) (places_in es) (length bs) time size h m.never f j z e y)
