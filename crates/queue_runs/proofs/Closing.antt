-- The job closer's theorem (request 3/13) on the code: over any calls. Assumes nothing.
use mathlib.Core.Path.{◌≡◌, refl, sym, ap, subst, ◌∙◌}
use mathlib.Core.Bool.{Bool, true, false, ◌||◌, true-or, or-true}
use mathlib.Core.List.{List, [], ◌∷◌, ◌++◌, append_assoc, append-nil}
use mathlib.Core.Option.{Option, none, some}
use Prim.Native.Nat.{ℕ, ◌≤◌, ◌<◌}
use native.Mathlib.Omega.{arith}
use lib.ListN.{length}
use Rattle.queue_model.specs.Logic.{any}
use Rattle.queue_model.specs.Types as plain
use Rattle.queue_model.specs.Types.{Item, Queue, Outcome}
use Rattle.queue_model.specs.Streams.{stream_at}
use Rattle.queue_model.specs.Closing.{half_sent, unsent, FurtherOn, Pending, Paused}
use Rattle.queue_model.specs.Waiting.{is_waiting}
use Rattle.queue_model.specs.Questions.{amount_of}
use Rattle.queue_model.proofs.Invariant.Well.{kept_at, amount_le}
use Rattle.queue_model.proofs.Invariant.Serving.{waits_above}
use Rattle.queue_model.proofs.Invariant.Closing.{Begins, Leaves, close_leaves, pending_offset, pending_waits, nothing_waits_then, Falls, is_refused, nothing_left, falls, produce_falls}
use Rattle.queue_questions.specs.Questions.{total_of}
use Rattle.queue_streams.specs.Events.{places_in}
use Rattle.queue_sending.specs.Produced as produced
use Rattle.linked_sending.specs.Meaning.{produced_of}
use Rattle.linked_streams.proofs.Asks.{total_asked}
use Rattle.queue_runs.specs.Calls.{Call, produce, discard, close, call_of, Typed, Shown, sent}
use Rattle.queue_runs.specs.Run as runs
use Rattle.queue_runs.specs.Run.{State, step}
use Rattle.queue_runs.specs.Meaning.{queue_of, AllTyped, sent_of, loud_of}
use Rattle.queue_runs.specs.Refusals.{refusal}
use Rattle.queue_runs.specs.Closing.{tells, Ready, ready_now, told_before, parts, AllOf, joined, Abandons, discards, expires, Over, delivered, abandoned, Course, goes_on, is_over, CourseOf, NotReset, NoReset, Asks, asks, AllAsk, Request3Closing}
use Rattle.queue_runs.proofs.Steps.{step_link, meant}
use Rattle.queue_runs.proofs.Forms.{Loud, loud_refused, loud_done, Sent, sent_refused, sent_nothing, sent_fragment, form_of}
use Rattle.queue_runs.proofs.Demand3.{Stands, stands}
use Rattle.queue_runs.proofs.CloseSteps.{stands_step, stands_after, part, all_append, joined_append, Turn, turn_further, turn_delivers, turn_abandons, turn, turn_produce, Rest, rest_stays, rest_told, ready_tells, pending_untold, rest}

-- ------------------------------------------------------------------ lists of calls

pub after_append : (cs ds : List Call) (s : State) → runs.after (cs ++ ds) s ≡ runs.after ds (runs.after cs s)
unfolding runs.after
after_append [] ds s = refl
after_append (c ∷ cs) ds s = after_append cs ds (step c s).next

or_more : (x y z : Bool) → (x || y) ≡ true → (y ≡ true → z ≡ true) → (x || z) ≡ true
or_more true y z e f = refl
or_more false y z e f = f e

-- What was told stays told.
told_append : (k : ℕ) (cs ds : List Call) (s : State) → any (tells k) (runs.run cs s) ≡ true → any (tells k) (runs.run (cs ++ ds) s) ≡ true
unfolding any runs.run
told_append k [] ds s e = let z : ◌≡◌ {A = ℕ} 0 1 = cc in absurd (omega arith)
told_append k (c ∷ cs) ds s e = or_more (tells k (step c s).shows) (any (tells k) (runs.run cs (step c s).next)) (any (tells k) (runs.run (cs ++ ds) (step c s).next)) e (told_append k cs ds (step c s).next)

-- ------------------------------------------------------------------ a paused stream

-- After calls it is paused, or one of them has told it.
data Rested (k : ℕ) (s : State) (cs : List Call) : Type 0 where
  resting : Paused k (queue_of (runs.after cs s)) → Rested k s cs
  telling : any (tells k) (runs.run cs s) ≡ true → Rested k s cs

rested_cons : (k : ℕ) (s : State) (c : Call) (cs : List Call) → Rested k (step c s).next cs → Rested k s (c ∷ cs)
unfolding any runs.run runs.after
rested_cons k s c cs (resting p) = resting p
rested_cons k s c cs (telling e) = telling (ap (λ (b : Bool). tells k (step c s).shows || b) e ∙ or-true (tells k (step c s).shows))

rested_told : (k : ℕ) (s : State) (c : Call) (cs : List Call) → tells k (step c s).shows ≡ true → Rested k s (c ∷ cs)
unfolding any runs.run
rested_told k s c cs e = telling (ap (λ (b : Bool). b || any (tells k) (runs.run cs (step c s).next)) e ∙ true-or (any (tells k) (runs.run cs (step c s).next)))

rested_run : {o : plain.Options} {len : ℕ} (k : ℕ) (cs : List Call) (s : State) → Stands o len s → AllTyped cs → NoReset cs → Paused k (queue_of s) → Rested k s cs
rested_run k [] s n t r p = resting (unfold runs.after in p)
rested_run k (c ∷ cs) s n t r p = go (rest k s n p c t.0 r.0) (λ q. rested_run k cs (step c s).next (stands_step c s n t.0) t.1 r.1 q)
  where
    go : Rest k c s → (Paused k (queue_of (step c s).next) → Rested k (step c s).next cs) → Rested k s (c ∷ cs)
    go (rest_stays q) f = rested_cons k s c cs (f q)
    go (rest_told e) f = rested_told k s c cs e

ready_of : {o : plain.Options} {len : ℕ} (k : ℕ) (s : State) (cs : List Call) → Stands o len (runs.after cs s) → Rested k s cs → Ready k s cs
ready_of k s cs n (resting p) = ready_now (ready_tells k (runs.after cs s) n p)
ready_of k s cs n (telling e) = told_before e

-- ------------------------------------------------------------------ a pending stream

-- After calls it goes on, or its message is over.
data Then (k : ℕ) (i : Item) (s : State) (cs : List Call) : Type 0 where
  going : (j : Item) → Pending k j (queue_of (runs.after cs s)) → AllOf i.message_id (parts k (runs.run cs s)) → FurtherOn (joined (parts k (runs.run cs s))) i j → Then k i s cs
  ended : Over k i s cs → Rested k s cs → Then k i s cs

module _ (k : ℕ) (i j : Item) (s : State) (c : Call) (cs : List Call) (a : AllOf i.message_id (part k (step c s).shows)) (f : FurtherOn (joined (part k (step c s).shows)) i j) where
  abbrev s' : State
  s' = (step c s).next

  abbrev first : List ℕ
  first = joined (part k (step c s).shows)

  all_cons : (ds : List Call) → AllOf j.message_id (parts k (runs.run ds s')) → AllOf i.message_id (parts k (runs.run (c ∷ ds) s))
  unfolding parts runs.run
  all_cons ds b = all_append i.message_id (part k (step c s).shows) (parts k (runs.run ds s')) a (subst (λ (m : ℕ). AllOf m (parts k (runs.run ds s'))) f.same_message b)

  joined_cons : (ds : List Call) (l : List ℕ) → joined (parts k (runs.run ds s')) ++ l ≡ unsent j → joined (parts k (runs.run (c ∷ ds) s)) ++ l ≡ unsent i
  unfolding parts runs.run
  joined_cons ds l e =
      ap (λ (x : List ℕ). x ++ l) (joined_append (part k (step c s).shows) (parts k (runs.run ds s')))
      ∙ append_assoc first (joined (parts k (runs.run ds s'))) l ∙ ap (λ (x : List ℕ). first ++ x) e ∙ f.bytes

  abandons_cons : (d : Call) → Abandons k j d → Abandons k i d
  abandons_cons d (discards es) = subst (λ (m : ℕ). Abandons k i (discard es k m)) (sym f.same_message) (discards es)
  abandons_cons d (expires es bs time size e) = expires es bs time size (ap (λ (x : Option ℕ). plain.expired time x) (sym f.same_expiry) ∙ e)

  over_cons : Over k j s' cs → Over k i s (c ∷ cs)
  unfolding runs.after
  over_cons (delivered before behind e b g) =
      delivered (c ∷ before) behind (ap (λ (l : List Call). c ∷ l) e) (all_cons before b)
      (sym (append-nil (joined (parts k (runs.run (c ∷ before) s)))) ∙ joined_cons before [] (append-nil (joined (parts k (runs.run before s'))) ∙ g))
  over_cons (abandoned before d behind e b p) = abandoned (c ∷ before) d behind (ap (λ (l : List Call). c ∷ l) e) (abandons_cons d b) p

  then_cons : Then k j s' cs → Then k i s (c ∷ cs)
  unfolding runs.after
  then_cons (going l p b g) = going l p (all_cons cs b) (record { same_message = g.same_message ∙ f.same_message; same_expiry = g.same_expiry ∙ f.same_expiry; bytes = joined_cons cs (unsent l) g.bytes })
  then_cons (ended o r) = ended (over_cons o) (rested_cons k s c cs r)

-- Delivered by the first call.
delivered_first : (k : ℕ) (i : Item) (s : State) (c : Call) (cs : List Call) → AllOf i.message_id (part k (step c s).shows) → joined (part k (step c s).shows) ≡ unsent i → Over k i s (c ∷ cs)
unfolding parts runs.run
delivered_first k i s c cs a e =
    delivered (c ∷ []) cs refl (all_append i.message_id (part k (step c s).shows) [] a tt)
    (joined_append (part k (step c s).shows) [] ∙ append-nil (joined (part k (step c s).shows)) ∙ e)

then_run : {o : plain.Options} {len : ℕ} (k : ℕ) (i : Item) (cs : List Call) (s : State) → Stands o len s → AllTyped cs → NoReset cs → Pending k i (queue_of s) → Then k i s cs
then_run k i [] s n t r p = going i (unfold runs.after in p) (unfold parts runs.run in tt) (record { same_message = refl; same_expiry = refl; bytes = unfold parts runs.run in refl })
then_run k i (c ∷ cs) s n t r p =
    let m = stands_step c s n t.0 in
    go (turn k i s n p c t.0 r.0) (λ j q. then_run k j cs (step c s).next m t.1 r.1 q) (λ q. rested_run k cs (step c s).next m t.1 r.1 q)
  where
    go : Turn k i c s → ((j : Item) → Pending k j (queue_of (step c s).next) → Then k j (step c s).next cs) → (Paused k (queue_of (step c s).next) → Rested k (step c s).next cs) → Then k i s (c ∷ cs)
    go (turn_further j q a f) g h = then_cons k i j s c cs a f (g j q)
    go (turn_delivers q a e) g h = ended (delivered_first k i s c cs a e) (rested_cons k s c cs (h q))
    go (turn_abandons q a) g h = ended (abandoned [] c cs refl a (unfold runs.after in q)) (rested_cons k s c cs (h q))

course_of : {o : plain.Options} {len : ℕ} (k : ℕ) (i : Item) (s : State) (cs : List Call) → Stands o len (runs.after cs s) → Then k i s cs → Course k i s cs
course_of k i s cs n (going j p a f) = goes_on (record { first = j; pends = p; half_sent = pending_offset n.reachable k j p; waits = pending_waits n.reachable k j p; not_ready = pending_untold k j (runs.after cs s) n p; parts_of = a; further = f })
course_of k i s cs n (ended o r) = is_over o (ready_of k s cs n r)

-- ------------------------------------------------------------------ next fragments

-- A next fragment that says that nothing waits.
says_nothing : (es bs : List ℕ) (n : ℕ) (o : Outcome) → Sent o → (sent_of es bs o).answer ≡ sent (produced.Nothing n) → o.answer ≡ plain.nothing_waits
says_nothing es bs n o (sent_refused r) e = let z : ◌≡◌ {A = ℕ} 0 1 = cc in absurd (omega arith)
says_nothing es bs n o (sent_nothing vs) e = refl
says_nothing es bs n o (sent_fragment f vs) e = let z : ◌≡◌ {A = ℕ} 0 1 = cc in absurd (omega arith)

true_false : (b : Bool) → b ≡ true → b ≡ false → ⊥
true_false b e f = let z : ◌≡◌ {A = ℕ} 0 1 = cc in omega arith

-- A next fragment that is not refused ends the closing, or leaves a smaller total.
data Winds (k : ℕ) (c : Call) (s : State) : Type 0 where
  wound : Paused k (queue_of (step c s).next) → Winds k c s
  unwound : (j : Item) → Pending k j (queue_of (step c s).next) → total_of (step c s).next.words < total_of s.words → Winds k c s

module _ {o : plain.Options} {len : ℕ} (k : ℕ) (es bs : List ℕ) (time size : ℕ) (s : State) (n : Stands o len s) (t : Typed (produce es bs time size)) where
  abbrev asked : Call
  asked = produce es bs time size

  answer_is : (step asked s).shows.answer ≡ (sent_of es bs (meant asked s).outcome).answer
  answer_is = ap (λ (x : Shown). x.answer) (step_link asked s n.good t).shows_are

  -- Where nothing waits no stream is pending.
  none_pends : (j : Item) → (meant asked s).outcome.answer ≡ plain.nothing_waits → Pending k j (queue_of (step asked s).next) → ⊥
  none_pends j e p =
      true_false (is_waiting k (queue_of (step asked s).next)) (pending_waits (stands_step asked s n t).reachable k j p)
      (ap (is_waiting k) (step_link asked s n.good t).next_is ∙ nothing_waits_then k (length s.store) (places_in es) (length bs) time size (queue_of s) n.good.well e)

  -- So the stream is paused then.
  none_ends : (i : Item) (m : ℕ) → (step asked s).shows.answer ≡ sent (produced.Nothing m) → Pending k i (queue_of s) → Paused k (queue_of (step asked s).next)
  none_ends i m e p = go (turn_produce k i s n p es bs time size t)
    where
      go : Turn k i (produce es bs time size) s → Paused k (queue_of (step (produce es bs time size) s).next)
      go (turn_further j q a f) = absurd (none_pends j (says_nothing es bs m (meant (produce es bs time size) s).outcome (form_of (call_of (length s.store) (produce es bs time size)) (queue_of s)) (sym answer_is ∙ e)) q)
      go (turn_delivers q a f) = q
      go (turn_abandons q a) = q

  refused_shown : (m : ℕ) → (meant asked s).outcome.answer ≡ plain.refused m → refusal (step asked s).shows.answer ≡ true
  refused_shown m e = ap refusal answer_is ∙ ap (λ (a : plain.Answer). refusal (sent (produced_of a (length (meant asked s).outcome.events)))) e

  smaller : (meant asked s).next.total < (queue_of s).total → total_of (step asked s).next.words < total_of s.words
  smaller l =
      let a = total_asked (step asked s).next.words (step asked s).next.store in let b = total_asked s.words s.store in
      let d : (queue_of (step asked s).next).total ≡ (meant asked s).next.total = ap (λ (q : Queue). q.total) (step_link asked s n.good t).next_is in omega arith

  winds : (i : Item) → refusal (step asked s).shows.answer ≡ false → Pending k i (queue_of s) → Winds k asked s
  winds i r p = go (turn_produce k i s n p es bs time size t)
    where
      pends : (j : Item) → Pending k j (queue_of (step (produce es bs time size) s).next) → Falls (queue_of s) (meant (produce es bs time size) s) → Winds k (produce es bs time size) s
      pends j q (is_refused m e) = absurd (true_false (refusal (step (produce es bs time size) s).shows.answer) (refused_shown m e) r)
      pends j q (nothing_left e) = absurd (none_pends j e q)
      pends j q (falls l) = unwound j q (smaller l)

      go : Turn k i (produce es bs time size) s → Winds k (produce es bs time size) s
      go (turn_further j q a f) = pends j q (produce_falls (length s.store) (places_in es) (length bs) time size (queue_of s) n.good.well)
      go (turn_delivers q a f) = wound q
      go (turn_abandons q a) = wound q

winds_call : {o : plain.Options} {len : ℕ} (k : ℕ) (c : Call) (s : State) → Stands o len s → Typed c → Asks s c → (i : Item) → Pending k i (queue_of s) → Winds k c s
winds_call k c s n t (asks es bs time size r) i p = winds k es bs time size s n t i r p

asks_no_reset : (s : State) (c : Call) → Asks s c → NotReset c
asks_no_reset s c (asks es bs time size r) = (λ e. let z : ◌≡◌ {A = ℕ} 0 1 = cc in omega arith, λ x y t p e. let z : ◌≡◌ {A = ℕ} 0 1 = cc in omega arith)

all_ask_no_reset : (ps : List Call) (s : State) → AllAsk ps s → NoReset ps
all_ask_no_reset [] s a = tt
all_ask_no_reset (c ∷ ps) s a = (asks_no_reset s c a.0, all_ask_no_reset ps (step c s).next a.1)

-- While a stream is pending some bytes wait.
pending_total : {o : plain.Options} {len : ℕ} (k : ℕ) (i : Item) (s : State) → Stands o len s → Pending k i (queue_of s) → 0 < total_of s.words
unfolding amount_of
pending_total k i s n p =
    let a = waits_above (queue_of s) k n.good.well (pending_waits n.reachable k i p) in
    let b = amount_le (queue_of s) k n.good.well in
    let d = total_asked s.words s.store in omega arith

-- As many of them as bytes wait end it.
wind : {o : plain.Options} {len : ℕ} (k : ℕ) (ps : List Call) (s : State) → Stands o len s → AllTyped ps → AllAsk ps s → (i : Item) → Pending k i (queue_of s) → total_of s.words ≤ length ps → Rested k s ps
wind k [] s n t a i p l = let z = pending_total k i s n p in absurd (omega arith)
wind k (c ∷ ps) s n t a i p l =
    let m = stands_step c s n t.0 in
    go (winds_call k c s n t.0 a.0 i p) (λ q. rested_run k ps (step c s).next m t.1 (all_ask_no_reset ps (step c s).next a.1) q) (λ j q f. wind k ps (step c s).next m t.1 a.1 j q f)
  where
    go : Winds k c s → (Paused k (queue_of (step c s).next) → Rested k (step c s).next ps) → ((j : Item) → Pending k j (queue_of (step c s).next) → total_of (step c s).next.words ≤ length ps → Rested k (step c s).next ps) → Rested k s (c ∷ ps)
    go (wound q) f g = rested_cons k s c ps (f q)
    go (unwound j q e) f g = rested_cons k s c ps (g j q (omega arith))

-- ------------------------------------------------------------------ the calls behind

rested_append : (k : ℕ) (cs ds : List Call) (s : State) → Rested k (runs.after cs s) ds → Rested k s (cs ++ ds)
unfolding runs.after
rested_append k [] ds s r = r
rested_append k (c ∷ cs) ds s r = rested_cons k s c (cs ++ ds) (rested_append k cs ds (step c s).next r)

rested_on : (k : ℕ) (cs ds : List Call) (s : State) → Rested k s cs → (Paused k (queue_of (runs.after cs s)) → Rested k (runs.after cs s) ds) → Rested k s (cs ++ ds)
rested_on k cs ds s (resting p) f = rested_append k cs ds s (f p)
rested_on k cs ds s (telling e) f = telling (told_append k cs ds s e)

then_on : (k : ℕ) (i : Item) (cs ds : List Call) (s : State) → Then k i s cs → ((j : Item) → Pending k j (queue_of (runs.after cs s)) → Rested k (runs.after cs s) ds) → (Paused k (queue_of (runs.after cs s)) → Rested k (runs.after cs s) ds) → Rested k s (cs ++ ds)
then_on k i cs ds s (going j p a b) f g = rested_append k cs ds s (f j p)
then_on k i cs ds s (ended o r) f g = rested_on k cs ds s r g

-- ------------------------------------------------------------------ THE THEOREM

module _ {o : plain.Options} {len : ℕ} (k : ℕ) (s : State) (n : Stands o len s) where
  begins_course : (h : Option Item) → Begins k h (queue_of s) → (cs : List Call) → AllTyped cs → NoReset cs → CourseOf k h s cs
  begins_course none b cs t r = ready_of k s cs (stands_after cs s n t) (rested_run k cs s n t r b)
  begins_course (some i) b cs t r = course_of k i s cs (stands_after cs s n t) (then_run k i cs s n t r b)

  -- Calls ds that end the closing of a pending stream end it behind any others.
  begins_ready : (h : Option Item) → Begins k h (queue_of s) → (cs ds : List Call) → AllTyped cs → NoReset cs → AllTyped ds → NoReset ds
      → ((j : Item) → Pending k j (queue_of (runs.after cs s)) → Rested k (runs.after cs s) ds) → Ready k s (cs ++ ds)
  begins_ready h b cs ds t r u v f = ready_of k s (cs ++ ds) (subst (Stands o len) (sym (after_append cs ds s)) (stands_after ds (runs.after cs s) m u)) (go h b)
    where
      m : Stands o len (runs.after cs s)
      m = stands_after cs s n t

      rests : Paused k (queue_of (runs.after cs s)) → Rested k (runs.after cs s) ds
      rests q = rested_run k ds (runs.after cs s) m u v q

      go : (h : Option Item) → Begins k h (queue_of s) → Rested k s (cs ++ ds)
      go none b = rested_on k cs ds s (rested_run k cs s n t r b) rests
      go (some i) b = then_on k i cs ds s (then_run k i cs s n t r b) f rests

  begins_nothing : (h : Option Item) → Begins k h (queue_of s) → (cs : List Call) (es bs : List ℕ) (time size m : ℕ) → AllTyped cs → NoReset cs → Typed (produce es bs time size)
      → (step (produce es bs time size) (runs.after cs s)).shows.answer ≡ sent (produced.Nothing m) → Ready k s (cs ++ produce es bs time size ∷ [])
  begins_nothing h b cs es bs time size m t r u e =
      begins_ready h b cs (produce es bs time size ∷ []) t r (u, tt) ((λ z. (let y : ◌≡◌ {A = ℕ} 0 1 = cc in omega arith), λ v w x p z. let y : ◌≡◌ {A = ℕ} 0 1 = cc in omega arith), tt)
      (λ j q. rested_cons k (runs.after cs s) (produce es bs time size) [] (resting (unfold runs.after in none_ends k es bs time size (runs.after cs s) (stands_after cs s n t) u j m e q)))

  begins_hangs : (h : Option Item) → Begins k h (queue_of s) → (cs ps : List Call) → AllTyped cs → NoReset cs → AllTyped ps → AllAsk ps (runs.after cs s) → total_of (runs.after cs s).words ≤ length ps → Ready k s (cs ++ ps)
  begins_hangs h b cs ps t r u a l = begins_ready h b cs ps t r u (all_ask_no_reset ps (runs.after cs s) a) (λ j q. wind k ps (runs.after cs s) (stands_after cs s n t) u a j q l)

-- A closing that is not refused is done.
closed_done : (es : List ℕ) (o : Outcome) → Loud o → refusal (loud_of es o).answer ≡ false → o.answer ≡ plain.done
closed_done es o (loud_refused n) e = let z : ◌≡◌ {A = ℕ} 0 1 = cc in absurd (omega arith)
closed_done es o (loud_done vs) e = refl

pub request3_closing : Request3Closing
unfolding Request3Closing
request3_closing a len es k s c =
    let n = stands a len s c.reached in
    let h = step_link (close es k) s n.good c.typed in
    let m = stands_step (close es k) s n c.typed in
    let is : List Item = (stream_at (queue_of s) k).items in
    let d : (meant (close es k) s).outcome.answer ≡ plain.done =
    closed_done es (meant (close es k) s).outcome (form_of (call_of (length s.store) (close es k)) (queue_of s)) (ap (λ (x : Shown). refusal x.answer) (sym h.shows_are) ∙ c.accepted) in
    let l : Leaves k (half_sent is) (queue_of (step (close es k) s).next) =
    subst (Leaves k (half_sent is)) (sym h.next_is) (close_leaves (places_in es) k (queue_of s) (kept_at (queue_of s) k n.good.well c.typed.1) c.opened d) in
    record {
      drops_the_rest = l.items_are;
      course = begins_course k (step (close es k) s).next m (half_sent is) l.begins;
      none_waits = begins_nothing k (step (close es k) s).next m (half_sent is) l.begins;
      never_hangs = begins_hangs k (step (close es k) s).next m (half_sent is) l.begins;
    }
