-- Receiving a response and the whole-queue reset, over plain values: a callee's result is a variable, what it ensures a hypothesis. Assumes nothing.
use mathlib.Core.Path.{◌≡◌, refl, sym, ap, ap₂, ◌∙◌, subst}
use mathlib.Core.Bool.{Bool, true, false}
use mathlib.Core.List.{List, [], map}
use mathlib.Core.Option.{Option, none, some}
use Prim.Native.Nat.{ℕ, ◌+◌}
use native.Mathlib.Omega.{arith}
use lib.ListN.{length}
use Rattle.std.specs.Prelude.{if◌then◌else◌}
use Rattle.queue_model.specs.Types as queue
use Rattle.queue_model.specs.Types.{Queue, Step, reply, refuse, with_state}
use Rattle.queue_model.specs.Streams.{has_items, reschedule_each}
use Rattle.queue_model.specs.Refusals.{first_refusal, refused_or, checked}
use Rattle.queue_model.specs.Reset as restarts
use Rattle.queue_model.specs.Calls
use Rattle.queue_model.specs.Run as run
use Rattle.send_queue.specs.Call.{Call}
use Rattle.send_queue.specs.Call as call
use Rattle.send_queue.specs.Queue as state
use Rattle.send_queue.specs.Queue.{Good}
use Rattle.send_queue.specs.Queue.{call_of, shown, Does}
use Rattle.send_queue.specs.Restarts.{ResetMeets}
use Rattle.send_queue.proofs.Restarts.{call_same}
use Rattle.reset_model.specs.Wire as wire
use Rattle.reset_model.specs.Handler as model
use Rattle.reset_wire.specs.Reading.{judged_as, response_of}
use Rattle.reset_wire.specs.Response.{Response}
use Rattle.reset_wire.specs.Response as response
use Rattle.stream_reset_handler.specs.declared.handler.StreamResetHandler.{StreamResetHandler}
use Rattle.stream_reset_handler.specs.ResponseAnswer.{Ignored, StillWaiting, Refused}
use Rattle.stream_reset_handler.specs.declared.receiving.ResponseStep.{ResponseStep}
use Rattle.stream_reset_handler.specs.declared.receiving.ResponseStep.TheVariants as step
use Rattle.stream_reset_handler.specs.HandledResponse.{HandledResponse}
use Rattle.stream_reset_handler.specs.Handler.{handler_of, underway_of, same_number, is_underway, ended_as}
use Rattle.stream_reset_handler.specs.Receiving.{Outcome, HandledWith, handled_with, handled, finish_answer, finished_by, finished, ignored_in, Ends, respond_to, handle_response, step_of, IsEnds, reset_by, Handles, verdict_for, FinishedAs, FinishMeets, HandleMeets, Restarts, ResetHandlerMeets}

-- ---- commit and rollback

abbrev call_for : Bool → run.Call
call_for true = run.commit
call_for false = run.rollback

finish_done : (z : Bool) (q : Queue) → (run.step (call_for z) q).outcome.answer ≡ queue.done
unfolding run.step Calls.commit Calls.rollback restarts.reopen
finish_done true q = refl
finish_done false q = refl

abbrev outcome : Call → List ℕ → Outcome
outcome c ws = record { answer = c; next = ws }

-- The contract determines the outcome, and says what it is on the words of a queue.
finish_same : (z : Bool) (ws : List ℕ) (o u : Outcome) → FinishedAs z ws o → FinishedAs z ws u → o ≡ u
finish_same true ws o u m n = let s = call_same run.commit ws _ o.answer u.answer o.next u.next m n in ap₂ outcome s.answers s.words
finish_same false ws o u m n = let s = call_same run.rollback ws _ o.answer u.answer o.next u.next m n in ap₂ outcome s.answers s.words

finish_does : (z : Bool) (ws : List ℕ) (o : Outcome) → FinishedAs z ws o → (st : List ℕ) → Good ws st → Does (call_for z) ws st o.answer o.next st
finish_does true ws o m st g = m.model st g
finish_does false ws o m st g = m.model st g

module _ (z : Bool) (ws : List ℕ) (h : StreamResetHandler) (done : Call) (ws' : List ℕ) (m : FinishedAs z ws (outcome done ws')) where
  by_words : (c : Call) → done ≡ c → (o : Outcome) → FinishedAs z ws o → finished_by z c ws' h ≡ finished z o h
  by_words c e o f = ap (λ (x : Call). finished_by z x ws' h) (sym e) ∙ ap (λ (x : Outcome). finished z x h) (finish_same z ws (outcome done ws') o m f)

  pub finish_refused : (n : ℕ) (a : HandledResponse) → done ≡ call.Refused n → a ≡ handled (Refused n) h → FinishMeets z ws h a ws'
  finish_refused n a e ea = record {
    words = λ o f. ap (λ (x : HandledResponse). handled_with x ws') ea ∙ by_words (call.Refused n) e o f;
    model = λ st g r eh. (let d = (finish_does z ws (outcome done ws') m st g).answer in
        let f : done ≡ call.Accepted (length (shown (call_for z) ws st).events) = d ∙ ap (λ (x : queue.Answer). call_of x (length (shown (call_for z) ws st).events)) (finish_done z (state.model ws st)) in
        let y : ◌≡◌ {A = ℕ} 0 1 = cc in absurd (omega arith));
  }

  finishes : (st : List ℕ) → Good ws st → (r : model.Handler) → h ≡ handler_of r → Handles (model.decided (verdict_for z) r (state.model ws st)) st (handled (finish_answer z) (ended_as h)) ws'
  unfolding model.decided
  finishes st g r eh = by z (finish_does z ws (outcome done ws') m st g)
    where
      by : (b : Bool) → Does (call_for b) ws st done ws' st → Handles (model.decided (verdict_for b) r (state.model ws st)) st (handled (finish_answer b) (ended_as h)) ws'
      by true d = record { good = d.good; next = d.next; answer = refl; handler = ap ended_as eh }
      by false d = record { good = d.good; next = d.next; answer = refl; handler = ap ended_as eh }

  pub finish_accepted : (k : ℕ) (h' : StreamResetHandler) (a : HandledResponse) → done ≡ call.Accepted k → h' ≡ ended_as h → a ≡ handled (finish_answer z) h' → FinishMeets z ws h a ws'
  finish_accepted k h' a e eh ea =
      let f : a ≡ handled (finish_answer z) (ended_as h) = ea ∙ ap (handled (finish_answer z)) eh in
      record {
        words = λ o u. ap (λ (x : HandledResponse). handled_with x ws') f ∙ by_words (call.Accepted k) e o u;
        model = λ st g r ei. subst (λ (x : HandledResponse). Handles (model.decided (verdict_for z) r (state.model ws st)) st x ws') (sym f) (finishes st g r ei);
      }

-- ---- what was read

back : Response → Option wire.Response
back (response.Commits n) = some (record { number = n; verdict = wire.commits })
back (response.RollsBack n) = some (record { number = n; verdict = wire.rolls_back })
back (response.KeepsWaiting n) = some (record { number = n; verdict = wire.keeps_waiting })
back response.Malformed = none

back_is : (n : ℕ) (v : wire.Verdict) → back (judged_as n (some v)) ≡ some (record { number = n; verdict = v })
unfolding back
back_is n wire.commits = refl
back_is n wire.rolls_back = refl
back_is n wire.keeps_waiting = refl

back_of : (x : Option wire.Response) → x ≡ back (response_of x)
unfolding back
back_of none = refl
back_of (some a) = sym (back_is a.number a.verdict)

-- ---- whose response it is

answered_same : (u : Option model.Request) (a : wire.Response) (r : model.Handler) (q : Queue) → same_number (underway_of u) a.number ≡ true → model.answered u a r q ≡ model.decided a.verdict r q
unfolding model.answered
answered_same none a r q e = let z : ◌≡◌ {A = ℕ} 0 1 = cc in absurd (omega arith)
answered_same (some u) a r q e = ap (λ (b : Bool). if b then model.decided a.verdict r q else model.effect model.ignored r q) e

answered_other : (u : Option model.Request) (a : wire.Response) (r : model.Handler) (q : Queue) → same_number (underway_of u) a.number ≡ false → model.answered u a r q ≡ model.effect model.ignored r q
unfolding model.answered
answered_other none a r q e = refl
answered_other (some u) a r q e = ap (λ (b : Bool). if b then model.decided a.verdict r q else model.effect model.ignored r q) e

received_none : (r : model.Handler) (q : Queue) → model.received (back response.Malformed) r q ≡ model.effect (model.refused 27) r q
unfolding back model.received
received_none r q = refl

decided_waits : (r : model.Handler) (q : Queue) → model.decided wire.keeps_waiting r q ≡ model.effect model.still_waiting r q
unfolding model.decided
decided_waits r q = refl

received_some : (a : wire.Response) (r : model.Handler) (q : Queue) → model.received (some a) r q ≡ model.answered r.underway a r q
unfolding model.received
received_some a r q = refl

abbrev end_of : Bool → Ends → Outcome
end_of true q = q.commit
end_of false q = q.rollback

end_is : (z : Bool) (ws : List ℕ) (q : Ends) → IsEnds ws q → FinishedAs z ws (end_of z q)
end_is true ws q i = i.commits
end_is false ws q i = i.rolls_back

respond_same : (z : Bool) (n : ℕ) (q : Ends) (ws : List ℕ) (h : StreamResetHandler) → is_underway h n ≡ true → respond_to (judged_as n (some (verdict_for z))) q ws h ≡ finished z (end_of z q) h
respond_same true n q ws h e = rw e
respond_same false n q ws h e = rw e

respond_other : (v : wire.Verdict) (n : ℕ) (q : Ends) (ws : List ℕ) (h : StreamResetHandler) → is_underway h n ≡ false → respond_to (judged_as n (some v)) q ws h ≡ ignored_in ws h
respond_other wire.commits n q ws h e = rw e
respond_other wire.rolls_back n q ws h e = rw e
respond_other wire.keeps_waiting n q ws h e = rw e

module _ (ws : List ℕ) (h : StreamResetHandler) (bs : List ℕ) (x : Response) (ex : x ≡ response_of (wire.read_response bs)) where
  words_of : (q : Ends) (y : Response) → x ≡ y → respond_to y q ws h ≡ handle_response q ws h bs
  unfolding handle_response
  words_of q y e = ap (λ (w : Response). respond_to w q ws h) (sym e ∙ ex)

  read_is : (y : Response) → x ≡ y → (r : model.Handler) (q : Queue) → model.handle_response bs r q ≡ model.received (back y) r q
  unfolding model.handle_response
  read_is y e r q = ap (λ (w : Option wire.Response). model.received w r q) (back_of (wire.read_response bs) ∙ ap back (sym ex ∙ e))

  under_is : (r : model.Handler) → h ≡ handler_of r → (n : ℕ) (b : Bool) → is_underway h n ≡ b → same_number (underway_of r.underway) n ≡ b
  under_is r eh n b e = ap (λ (k : StreamResetHandler). is_underway k n) (sym eh) ∙ e

  handled_27 : (a : HandledResponse) → x ≡ response.Malformed → a ≡ handled (Refused 27) h → HandleMeets ws h bs a ws
  handled_27 a e ea = record {
    words = λ q i. ap (λ (y : HandledResponse). handled_with y ws) ea ∙ words_of q response.Malformed e;
    model = λ st g r eh. subst (λ (y : HandledResponse). Handles (model.handle_response bs r (state.model ws st)) st y ws) (sym ea)
        (subst (λ (y : model.Effect). Handles y st (handled (Refused 27) h) ws) (sym (read_is response.Malformed e r (state.model ws st) ∙ received_none r (state.model ws st)))
        (record { good = g; next = refl; answer = refl; handler = eh }));
  }

  module _ (n : ℕ) (v : wire.Verdict) (e : x ≡ judged_as n (some v)) where
    some_is : (r : model.Handler) (q : Queue) → model.handle_response bs r q ≡ model.answered r.underway (record { number = n; verdict = v }) r q
    some_is r q = read_is (judged_as n (some v)) e r q ∙ ap (λ (w : Option wire.Response). model.received w r q) (back_is n v) ∙ received_some (record { number = n; verdict = v }) r q

    handled_other : (b : Bool) (a : HandledResponse) → b ≡ is_underway h n → b ≡ false → a ≡ handled Ignored h → HandleMeets ws h bs a ws
    handled_other b a eb f ea = record {
      words = λ q i. ap (λ (y : HandledResponse). handled_with y ws) ea ∙ sym (respond_other v n q ws h (sym eb ∙ f)) ∙ words_of q (judged_as n (some v)) e;
      model = λ st g r eh. subst (λ (y : HandledResponse). Handles (model.handle_response bs r (state.model ws st)) st y ws) (sym ea)
          (subst (λ (y : model.Effect). Handles y st (handled Ignored h) ws) (sym (some_is r (state.model ws st) ∙ answered_other r.underway (record { number = n; verdict = v }) r (state.model ws st) (under_is r eh n false (sym eb ∙ f))))
          (record { good = g; next = refl; answer = refl; handler = eh }));
    }

    decides : (r : model.Handler) (q : Queue) → h ≡ handler_of r → is_underway h n ≡ true → model.handle_response bs r q ≡ model.decided v r q
    decides r q eh f = some_is r q ∙ answered_same r.underway (record { number = n; verdict = v }) r q (under_is r eh n true f)

  handled_finish : (z : Bool) (n : ℕ) → x ≡ judged_as n (some (verdict_for z)) → (b : Bool) (a : HandledResponse) (ws' : List ℕ) → b ≡ is_underway h n → b ≡ true → FinishMeets z ws h a ws' → HandleMeets ws h bs a ws'
  handled_finish z n e b a ws' eb f m = record {
    words = λ q i. m.words (end_of z q) (end_is z ws q i) ∙ sym (respond_same z n q ws h (sym eb ∙ f)) ∙ words_of q (judged_as n (some (verdict_for z))) e;
    model = λ st g r eh. subst (λ (y : model.Effect). Handles y st a ws') (sym (decides n (verdict_for z) e r (state.model ws st) eh (sym eb ∙ f))) (m.model st g r eh);
  }

  respond_waits : (n : ℕ) (q : Ends) → is_underway h n ≡ true → respond_to (response.KeepsWaiting n) q ws h ≡ handled_with (handled StillWaiting h) ws
  respond_waits n q f = rw f

  handled_waits : (n : ℕ) → x ≡ response.KeepsWaiting n → (b : Bool) (a : HandledResponse) → b ≡ is_underway h n → b ≡ true → a ≡ handled StillWaiting h → HandleMeets ws h bs a ws
  handled_waits n e b a eb f ea = record {
    words = λ q i. ap (λ (y : HandledResponse). handled_with y ws) ea ∙ sym (respond_waits n q (sym eb ∙ f)) ∙ words_of q (response.KeepsWaiting n) e;
    model = λ st g r eh. subst (λ (y : HandledResponse). Handles (model.handle_response bs r (state.model ws st)) st y ws) (sym ea)
        (subst (λ (y : model.Effect). Handles y st (handled StillWaiting h) ws) (sym (decides n wire.keeps_waiting e r (state.model ws st) eh (sym eb ∙ f) ∙ decided_waits r (state.model ws st)))
        (record { good = g; next = refl; answer = refl; handler = eh }));
  }

-- ---- as the code has it: what the response asks for, then the queue's call

-- A response to the request underway, and one to another.
record Ours (v : wire.Verdict) (h : StreamResetHandler) (y : Response) : Type 0 where
  number : ℕ
  read : y ≡ judged_as number (some v)
  ours : is_underway h number ≡ true

record Other (h : StreamResetHandler) (y : Response) : Type 0 where
  number : ℕ
  verdict : wire.Verdict
  read : y ≡ judged_as number (some verdict)
  other : is_underway h number ≡ false

abbrev Says : ResponseStep → StreamResetHandler → Response → Type 0
Says step.Commit h y = Ours wire.commits h y
Says step.RollBack h y = Ours wire.rolls_back h y
Says step.Wait h y = Ours wire.keeps_waiting h y
Says step.Ignore h y = Other h y
Says step.Refuse h y = y ≡ response.Malformed

abbrev step_for : wire.Verdict → ResponseStep
step_for wire.commits = step.Commit
step_for wire.rolls_back = step.RollBack
step_for wire.keeps_waiting = step.Wait

says_some : (v : wire.Verdict) (n : ℕ) (h : StreamResetHandler) (b : Bool) → is_underway h n ≡ b → Says (if b then step_for v else step.Ignore) h (judged_as n (some v))
says_some v n h false e = record { number = n; verdict = v; read = refl; other = e }
says_some wire.commits n h true e = record { number = n; read = refl; ours = e }
says_some wire.rolls_back n h true e = record { number = n; read = refl; ours = e }
says_some wire.keeps_waiting n h true e = record { number = n; read = refl; ours = e }

says : (y : Response) (h : StreamResetHandler) → Says (step_of y h) h y
says (response.Commits n) h = says_some wire.commits n h (is_underway h n) refl
says (response.RollsBack n) h = says_some wire.rolls_back n h (is_underway h n) refl
says (response.KeepsWaiting n) h = says_some wire.keeps_waiting n h (is_underway h n) refl
says response.Malformed h = refl

module _ (ws : List ℕ) (h : StreamResetHandler) (bs : List ℕ) (s : ResponseStep) (es : s ≡ step_of (response_of (wire.read_response bs)) h) where
  said : (t : ResponseStep) → s ≡ t → Says t h (response_of (wire.read_response bs))
  said t e = subst (λ (x : ResponseStep). Says x h (response_of (wire.read_response bs))) (sym es ∙ e) (says (response_of (wire.read_response bs)) h)

  pub step_refuses : (a : HandledResponse) → s ≡ step.Refuse → a ≡ handled (Refused 27) h → HandleMeets ws h bs a ws
  step_refuses a e ea = handled_27 ws h bs _ refl a (said step.Refuse e) ea

  pub step_ignores : (a : HandledResponse) → s ≡ step.Ignore → a ≡ handled Ignored h → HandleMeets ws h bs a ws
  step_ignores a e ea = let o = said step.Ignore e in handled_other ws h bs _ refl o.number o.verdict o.read false a (sym o.other) refl ea

  pub step_waits : (a : HandledResponse) → s ≡ step.Wait → a ≡ handled StillWaiting h → HandleMeets ws h bs a ws
  step_waits a e ea = let o = said step.Wait e in handled_waits ws h bs _ refl o.number o.read true a (sym o.ours) refl ea

  pub step_commits : (a : HandledResponse) (ws' : List ℕ) → s ≡ step.Commit → FinishMeets true ws h a ws' → HandleMeets ws h bs a ws'
  step_commits a ws' e m = let o = said step.Commit e in handled_finish ws h bs _ refl true o.number o.read true a ws' (sym o.ours) refl m

  pub step_rolls_back : (a : HandledResponse) (ws' : List ℕ) → s ≡ step.RollBack → FinishMeets false ws h a ws' → HandleMeets ws h bs a ws'
  step_rolls_back a ws' e m = let o = said step.RollBack e in handled_finish ws h bs _ refl false o.number o.read true a ws' (sym o.ours) refl m

-- ---- the whole-queue reset

data Shape (q : Queue) (s : Step) : Type 0 where
  kept : (n : ℕ) → s ≡ refuse q n → Shape q s
  went : (q' : Queue) → s ≡ reply queue.done [] q' → Shape q s

reset_shape : (q : Queue) → Shape q (run.step run.reset q)
unfolding run.step Calls.reset checked refused_or
reset_shape q = go (first_refusal (restarts.reset_checks q))
  where
    s : Step
    s =
        let ss = map (restarts.reset_stream q.options.strict_restart) q.streams in
        reply queue.done [] (with_state q (q.total + restarts.all_put_back q.streams) ss (reschedule_each q.interleaving has_items ss q.scheduler))

    go : (x : Option ℕ) → Shape q (refused_or x q s)
    go none = went _ refl
    go (some n) = kept n refl

whole_is : (r : model.Handler) (q : Queue) (s : Step) → run.step run.reset q ≡ s → model.whole_reset r q ≡ model.restarted s.outcome.answer r q s.next
unfolding model.whole_reset
whole_is r q s e = ap (λ (x : Step). model.restarted x.outcome.answer r q x.next) e

module _ (ws : List ℕ) (h : StreamResetHandler) (done : Call) (ws' : List ℕ) (m : ResetMeets ws done ws') where
  reset_words : (c : Call) → done ≡ c → (o : Outcome) → ResetMeets ws o.answer o.next → reset_by c ws' h ≡ reset_by o.answer o.next h
  reset_words c e o f =
      let s = call_same run.reset ws _ done o.answer ws' o.next m f in
      ap₂ (λ (x : Call) (y : List ℕ). reset_by x y h) (sym e ∙ s.answers) s.words

  reset_model : (c : Call) → done ≡ c → (st : List ℕ) → Good ws st → (r : model.Handler) → h ≡ handler_of r → Restarts (model.whole_reset r (state.model ws st)) st (reset_by c ws' h).reset_as ws'
  reset_model c e st g r eh = by c e (reset_shape (state.model ws st))
    where
      by : (d : Call) → done ≡ d → Shape (state.model ws st) (run.step run.reset (state.model ws st)) → Restarts (model.whole_reset r (state.model ws st)) st (reset_by d ws' h).reset_as ws'
      by (call.Accepted k) f (went q' s) =
          let y = m.model st g in
          let k0 : call.Accepted k ≡ call.Accepted 0 = sym f ∙ y.answer ∙ ap (λ (x : Step). call_of x.outcome.answer (length x.outcome.events)) s in
          subst (λ (x : model.Effect). Restarts x st (record { answer = call.Accepted k; handler = ended_as h }) ws') (sym (whole_is r (state.model ws st) _ s))
          (record { good = y.good; next = y.next ∙ ap (λ (x : Step). x.next) s; answer = k0; handler = ap ended_as eh })
      by (call.Accepted k) f (kept n s) =
          let y = m.model st g in
          let k0 : call.Accepted k ≡ call.Refused n = sym f ∙ y.answer ∙ ap (λ (x : Step). call_of x.outcome.answer (length x.outcome.events)) s in
          let z : ◌≡◌ {A = ℕ} 0 1 = cc in absurd (omega arith)
      by (call.Refused n) f (went q' s) =
          let y = m.model st g in
          let k0 : call.Refused n ≡ call.Accepted 0 = sym f ∙ y.answer ∙ ap (λ (x : Step). call_of x.outcome.answer (length x.outcome.events)) s in
          let z : ◌≡◌ {A = ℕ} 0 1 = cc in absurd (omega arith)
      by (call.Refused n) f (kept k s) =
          let y = m.model st g in
          let k0 : call.Refused n ≡ call.Refused k = sym f ∙ y.answer ∙ ap (λ (x : Step). call_of x.outcome.answer (length x.outcome.events)) s in
          subst (λ (x : model.Effect). Restarts x st (record { answer = call.Refused n; handler = h }) ws') (sym (whole_is r (state.model ws st) _ s))
          (record { good = y.good; next = y.next ∙ ap (λ (x : Step). x.next) s; answer = k0; handler = eh })

  reset_meets : (c : Call) → done ≡ c → ResetHandlerMeets ws h (reset_by c ws' h).reset_as ws'
  reset_meets (call.Accepted k) e = record { words = reset_words (call.Accepted k) e; model = reset_model (call.Accepted k) e }
  reset_meets (call.Refused n) e = record { words = reset_words (call.Refused n) e; model = reset_model (call.Refused n) e }

  pub reset_accepted : (k : ℕ) (h' : StreamResetHandler) → done ≡ call.Accepted k → h' ≡ ended_as h → ResetHandlerMeets ws h (record { answer = done; handler = h' }) ws'
  reset_accepted k h' e eh = rw (eh, e) (reset_meets (call.Accepted k) e)

  pub reset_refused : (n : ℕ) → done ≡ call.Refused n → ResetHandlerMeets ws h (record { answer = done; handler = h }) ws'
  reset_refused n e = rw e (reset_meets (call.Refused n) e)

-- ---- the definitions themselves, for lists of calls

module _ (ws : List ℕ) (h : StreamResetHandler) where
  abbrev FinishedBy : Bool → HandledWith → Type 0
  FinishedBy z x = FinishMeets z ws h x.handled_as x.words

  finish_meets : (z : Bool) (o : Outcome) → FinishedAs z ws o → FinishedBy z (finished z o h)
  finish_meets z o m = by o.answer refl
    where
      by : (c : Call) → o.answer ≡ c → FinishedBy z (finished_by z c o.next h)
      by (call.Accepted k) e = finish_accepted z ws h o.answer o.next m k (ended_as h) _ e refl refl
      by (call.Refused n) e = finish_refused z ws h o.answer o.next m n _ e refl

  module _ (bs : List ℕ) (q : Ends) (i : IsEnds ws q) where
    abbrev HandledAs : HandledWith → Type 0
    HandledAs x = HandleMeets ws h bs x.handled_as x.words

    meets_end : (z : Bool) (n : ℕ) (x : Response) → x ≡ response_of (wire.read_response bs) → x ≡ judged_as n (some (verdict_for z)) → (b : Bool) → is_underway h n ≡ b
        → HandledAs (if b then finished z (end_of z q) h else ignored_in ws h)
    meets_end z n x ex e true f = handled_finish ws h bs x ex z n e true _ _ (sym f) refl (finish_meets z (end_of z q) (end_is z ws q i))
    meets_end z n x ex e false f = handled_other ws h bs x ex n (verdict_for z) e false _ (sym f) refl refl

    meets_waits : (n : ℕ) (x : Response) → x ≡ response_of (wire.read_response bs) → x ≡ response.KeepsWaiting n → (b : Bool) → is_underway h n ≡ b
        → HandledAs (if b then handled_with (handled StillWaiting h) ws else ignored_in ws h)
    meets_waits n x ex e true f = handled_waits ws h bs x ex n e true _ (sym f) refl refl
    meets_waits n x ex e false f = handled_other ws h bs x ex n wire.keeps_waiting e false _ (sym f) refl refl

    pub handle_meets : HandledAs (handle_response q ws h bs)
    unfolding handle_response
    handle_meets = by (response_of (wire.read_response bs)) refl
      where
        by : (x : Response) → x ≡ response_of (wire.read_response bs) → HandledAs (respond_to x q ws h)
        by (response.Commits n) e = meets_end true n (response.Commits n) e refl (is_underway h n) refl
        by (response.RollsBack n) e = meets_end false n (response.RollsBack n) e refl (is_underway h n) refl
        by (response.KeepsWaiting n) e = meets_waits n (response.KeepsWaiting n) e refl (is_underway h n) refl
        by response.Malformed e = handled_27 ws h bs response.Malformed e _ refl refl

  pub reset_handler_meets : (c : Call) (us : List ℕ) → ResetMeets ws c us → (let x = reset_by c us h in ResetHandlerMeets ws h x.reset_as x.words)
  reset_handler_meets (call.Accepted k) us m = reset_accepted ws h (call.Accepted k) us m k (ended_as h) refl refl
  reset_handler_meets (call.Refused n) us m = reset_refused ws h (call.Refused n) us m n refl
