-- What one undisturbing call does to the send queue: nothing that the log tells, or it queues a message, or it sends a fragment of a stream's first message. Assumes nothing.
use mathlib.Core.Path.{◌≡◌, refl, sym, ap, ap₂, ◌∙◌, subst}
use mathlib.Core.Bool.{Bool, true, false, ◌&&◌}
use mathlib.Core.List.{List, [], ◌∷◌, ◌++◌, map}
use mathlib.Core.Option.{Option, none, some, get_or}
use Prim.Native.Nat.{ℕ, ◌≤◌, ◌<◌, min}
use native.Mathlib.Omega.{arith}
use lib.Dec.{eqb}
use lib.ListN.{length}
use Rattle.std.specs.Prelude.{if◌then◌else◌}
use Rattle.queue_model.specs.Logic.{same_bool}
use Rattle.queue_model.specs.Types as queue
use Rattle.queue_model.specs.Types.{Item, PauseState, not_paused, pending, paused, resetting, Stream, Active, Scheduler, Options, Queue, Event, done, fragment, Step, refuse, reply, remaining, expired, model_with_pause, with_priority, with_threshold, with_state}
use Rattle.queue_model.specs.Scheduler.{peek}
use Rattle.queue_model.specs.Streams.{find_stream, put_stream, stream_at, stream_key, new_stream, waiting, know, has_items, reschedule, reschedule_each}
use Rattle.queue_model.specs.Reset.{is_paused, is_resetting, paused_to_resetting, opened, reopened, reopen}
use Rattle.queue_model.specs.Refusals.{Check, max_payload, first_refusal, refused_or, checked, short_of, short_of_head}
use Rattle.queue_model.specs.Amounts.{sent_events}
use Rattle.queue_model.specs.Add.{added, add_checks}
use Rattle.queue_model.specs.Produce as produce
use Rattle.queue_model.specs.Produce.{Head, no_head, head, head_of, Look, nothing, broken, dropped, chosen, look_expired, look_at, look_for, look, numbered, make_fragment, handed_out, hand_out, after_look, pass_over, produce_checks}
use Rattle.queue_model.specs.Settings.{raised_event, threshold_checks, priority_checks, switched}
use Rattle.queue_model.specs.Discard.{discarded, discard_at, discard_checks}
use Rattle.queue_model.specs.Calls
use Rattle.queue_model.specs.Run as calls
use Rattle.queue_model.specs.Run.{add, produce, fill, discard, close, ready_ids, commit, rollback, reset, set_threshold, set_priority, set_interleaving, restore, ask_priority, ask_amount, ask_threshold, ask_total, ask_empty, ask_has_data, ask_streams_ready, ask_ready_count, ask_readiness, ask_room}
use Rattle.queue_model.proofs.Table.{find_put_same, find_put_other, Every, every_weaken, every_own}
use Rattle.queue_model.proofs.Checks.{Passed, all_passed, passed_none}
use Rattle.queue_model.proofs.Streams.{at_found, at_id}
use Rattle.queue_model.proofs.Invariant.Well.{Well, inside, sum_put_id}
use Rattle.queue_model.proofs.Invariant.Sends.{Chosen, FineLook, head_well, fine_look}
use Rattle.receiver_model.specs.Types.{Kind, DATA, I-DATA}
use Rattle.receiver_model.specs.Sender.{shown, taken_in, if_done, NoDrop, Undisturbing}
use Rattle.receiver_model.proofs.Lists.{Value, yes_is, no_is, value, equal, other, compare_same}
use Rattle.queue_model.proofs.FairTurns.Seen.{IsOpen}

-- ---- what stays

-- For DATA: interleaving stays off, and the remembered stream stays remembered.
abbrev pub Still : Kind → Queue → Queue → Type 0
Still DATA q r = (r.interleaving ≡ q.interleaving) × (r.scheduler.current ≡ q.scheduler.current)
Still I-DATA q r = Unit {0}

abbrev pub Off : Kind → Queue → Type 0
Off DATA q = q.interleaving ≡ false
Off I-DATA q = Unit {0}

pub record Same (k : Kind) (q r : Queue) : Type 0 where
  pub next_id : r.next_message_id ≡ q.next_message_id
  pub items : (j : ℕ) → (stream_at r j).items ≡ (stream_at q j).items
  pub counters : (j : ℕ) → (stream_at r j).counters ≡ (stream_at q j).counters
  pub pause : (j : ℕ) → (stream_at r j).pause_state ≡ (stream_at q j).pause_state
  pub waits : waiting r.streams ≡ waiting q.streams
  pub still : Still k q r

still_refl : (k : Kind) (q : Queue) → Still k q q
still_refl DATA q = (refl, refl)
still_refl I-DATA q = tt

pub same_refl : (k : Kind) (q : Queue) → Same k q q
same_refl k q = record { next_id = refl; items = λ j. refl; counters = λ j. refl; pause = λ j. refl; waits = refl; still = still_refl k q }

-- ---- what happens

pub data Happens (k : Kind) (q : Queue) (s : Step) (taken : List queue.Message) : Type 0 where
  quiet : shown s.outcome.answer ≡ [] → taken ≡ [] → Same k q s.next → Happens k q s taken
  adds : (now : ℕ) (m : queue.Message) → shown s.outcome.answer ≡ [] → taken ≡ m ∷ [] → s.next ≡ added now m q → 0 < length m.payload → Happens k q s taken
  sends : (a : Active) (st : Stream) (i : Item) (is : List Item) (n : ℕ) → Chosen q a st i is → peek q.scheduler ≡ some a → 0 < n → n ≤ remaining i
      → shown s.outcome.answer ≡ make_fragment st (numbered st.counters i).item n ∷ [] → taken ≡ [] → s.next ≡ handed_out q a st i is n → Happens k q s taken

unchanged : (k : Kind) (q : Queue) (s : Step) (taken : List queue.Message) → shown s.outcome.answer ≡ [] → taken ≡ [] → s.next ≡ q → Happens k q s taken
unchanged k q s taken e f g = quiet e f (subst (Same k q) (sym g) (same_refl k q))

-- A call that checks first is refused, and changes nothing, or does what it does.
data Checked (cs : List Check) (q : Queue) (s : Step) : Type 0 where
  refuses : (n : ℕ) → checked cs q s ≡ refuse q n → Checked cs q s
  passes : Passed cs → checked cs q s ≡ s → Checked cs q s

checks : (cs : List Check) (q : Queue) (s : Step) → Checked cs q s
unfolding checked refused_or
checks cs q s = go (first_refusal cs) refl
  where
    go : (o : Option ℕ) → first_refusal cs ≡ o → Checked cs q s
    go none e = passes (all_passed cs e) (ap (λ (x : Option ℕ). refused_or x q s) e)
    go (some n) e = refuses n (ap (λ (x : Option ℕ). refused_or x q s) e)

-- ---- a stream put in its place

pub at_put_own : (q r : Queue) (s : Stream) → r.options ≡ q.options → r.streams ≡ put_stream s q.streams → stream_at r s.id ≡ s
at_put_own q r s o e = at_found r.options r.streams s.id s (ap (find_stream s.id) e ∙ find_put_same stream_key s q.streams)

pub at_put_other : (q r : Queue) (s : Stream) (j : ℕ) → r.options ≡ q.options → r.streams ≡ put_stream s q.streams → (j ≡ s.id → ⊥) → stream_at r j ≡ stream_at q j
at_put_other q r s j o e d =
    ap₂ (λ (x : Options) (y : Option Stream). get_or y (new_stream x j)) o (ap (find_stream j) e ∙ find_put_other stream_key j s q.streams (λ g. d (sym g)))

-- A stream set that keeps its messages, counters and state.
known_same : (k : Kind) (q : Queue) (j : ℕ) (s : Stream) → Well q → s.id ≡ j → s.items ≡ (stream_at q j).items → s.counters ≡ (stream_at q j).counters → s.pause_state ≡ (stream_at q j).pause_state → Same k q (know q s)
known_same k q j s w d e f g = record {
  next_id = refl;
  items = λ x. each (λ (y : Stream). y.items) e x;
  counters = λ x. each (λ (y : Stream). y.counters) f x;
  pause = λ x. each (λ (y : Stream). y.pause_state) g x;
  waits = (let a = sum_put_id (λ (y : Stream). length y.items) q j s w d refl in let b : length s.items ≡ length (stream_at q j).items = ap length e in omega arith);
  still = still k;
}
  where
    each : {A : Type 0} (field : Stream → A) → field s ≡ field (stream_at q j) → (x : ℕ) → field (stream_at (know q s) x) ≡ field (stream_at q x)
    each field h x = elim (compare_same x s.id) [
      | equal c ↦ ap (λ (y : ℕ). field (stream_at (know q s) y)) c ∙ ap field (at_put_own q (know q s) s refl refl) ∙ h ∙ ap (λ (y : ℕ). field (stream_at q y)) (sym (c ∙ d))
      | other c ↦ ap field (at_put_other q (know q s) s x refl refl c)
    ]

    still : (x : Kind) → Still x q (know q s)
    still DATA = (refl, refl)
    still I-DATA = tt

-- ---- the calls

module _ (k : Kind) (q : Queue) (w : Well q) where
  refused_quiet : (s : Step) (n : ℕ) (taken : List queue.Message) → taken ≡ [] → s ≡ refuse q n → Happens k q s taken
  unfolding shown
  refused_quiet s n taken f e = unchanged k q s taken (ap (λ (x : Step). shown x.outcome.answer) e) f (ap (λ (x : Step). x.next) e)

  happens_add : (store now : ℕ) (m : queue.Message) → Happens k q (calls.step (add store now m) q) (taken_in (add store now m) (calls.step (add store now m) q).outcome.answer)
  unfolding calls.step Calls.add taken_in if_done shown
  happens_add store now m = go (checks (add_checks store now m q) q (reply done [] (added now m q)))
    where
      s : Step
      s = calls.step (add store now m) q

      go : Checked (add_checks store now m q) q (reply done [] (added now m q)) → Happens k q s (taken_in (add store now m) s.outcome.answer)
      go (refuses n e) = refused_quiet s n (taken_in (add store now m) s.outcome.answer) (ap (λ (x : Step). if_done x.outcome.answer m) e) e
      go (passes p e) = adds now m (ap (λ (x : Step). shown x.outcome.answer) e) (ap (λ (x : Step). if_done x.outcome.answer m) e) (ap (λ (x : Step). x.next) e) (inside 1 max_payload (length m.payload) p.1.1.1.0).0

  -- The choice that is looked at is the scheduler's.
  look_chosen : (now : ℕ) (a : Active) (s : Stream) (i : Item) (is : List Item) → look now q ≡ chosen a s i is → peek q.scheduler ≡ some a
  unfolding look look_for look_at look_expired
  look_chosen now a s i is e = go (peek q.scheduler) refl
    where
      no : nothing ≡ chosen a s i is → ⊥
      no f = let z : ◌≡◌ {A = ℕ} 0 1 = cc in omega arith

      in_head : (b : Active) (h : Head) → look_at now q b h ≡ chosen a s i is → b ≡ a
      in_head b no_head f = let z : ◌≡◌ {A = ℕ} 0 1 = cc in absurd (omega arith)
      in_head b (head s' i' is') f = split (expired now i'.expires_at) (short_of q s' (remaining i')) f
        where
          split : (x y : Bool) → ◌≡◌ {A = Look} (if x then (if y then broken else dropped (produce.drop_in s'.pause_state q s' i' is') (Rattle.queue_model.specs.Amounts.drop_head_events q s' i')) else chosen b s' i' is') (chosen a s i is) → b ≡ a
          split true true g = let z : ◌≡◌ {A = ℕ} 0 1 = cc in absurd (omega arith)
          split true false g = let z : ◌≡◌ {A = ℕ} 0 1 = cc in absurd (omega arith)
          split false y g = cc

      go : (o : Option Active) → peek q.scheduler ≡ o → peek q.scheduler ≡ some a
      go none f = absurd (no (sym (ap (look_for now q) f) ∙ e))
      go (some b) f = f ∙ ap {B = Option Active} some (in_head b (head_of (find_stream b.stream_id q.streams)) (sym (ap (look_for now q) f) ∙ e))

  happens_produce : (store places buffer now size : ℕ) → (first_refusal (produce_checks store places buffer now size q) ≡ none → NoDrop (look now q)) → Happens k q (calls.step (produce store places buffer now size) q) []
  unfolding calls.step Calls.produce pass_over after_look hand_out shown
  happens_produce store places buffer now size nd = go (checks (produce_checks store places buffer now size q) q r)
    where
      s : Step
      s = calls.step (produce store places buffer now size) q

      again : Queue → List Event → Option Step
      again p ds = pass_over (waiting q.streams) now size p ds

      r : Step
      r = get_or (after_look again size q [] (look now q)) (refuse q 16)

      handed : (a : Active) (st : Stream) (i : Item) (is : List Item) → Chosen q a st i is → peek q.scheduler ≡ some a → 0 < size → s ≡ get_or (hand_out size q [] a st i is) (refuse q 16) → Value (short_of_head q st i (min a.bytes_remaining size)) → Happens k q s []
      handed a st i is c pk z e (yes_is f) = refused_quiet s 16 [] refl (e ∙ ap (λ (b : Bool). get_or (if b then none else some (reply (fragment (make_fragment st (numbered st.counters i).item (min a.bytes_remaining size))) ([] ++ sent_events q st (min a.bytes_remaining size)) (handed_out q a st i is (min a.bytes_remaining size)))) (refuse q 16)) f)
      handed a st i is c pk z e (no_is f) =
          let n : ℕ = min a.bytes_remaining size in
          let g : s ≡ reply (fragment (make_fragment st (numbered st.counters i).item n)) ([] ++ sent_events q st n) (handed_out q a st i is n) = e ∙ ap (λ (b : Bool). get_or (if b then none else some (reply (fragment (make_fragment st (numbered st.counters i).item n)) ([] ++ sent_events q st n) (handed_out q a st i is n))) (refuse q 16)) f in
          let cs = c.choice_size in
          let u = (head_well q a.stream_id st i is w c.choice_head).0.unsent in
          sends a st i is n c pk (omega arith) (omega arith) (ap (λ (x : Step). shown x.outcome.answer) g) refl (ap (λ (x : Step). x.next) g)

      looked : (l : Look) → look now q ≡ l → FineLook q l → NoDrop l → 0 < size → s ≡ get_or (after_look again size q [] l) (refuse q 16) → Happens k q s []
      looked nothing f v d z e = unchanged k q s [] (ap (λ (x : Step). shown x.outcome.answer) e) refl (ap (λ (x : Step). x.next) e)
      looked broken f v d z e = absurd v
      looked (dropped p es) f v d z e = absurd d
      looked (chosen a st i is) f v d z e = handed a st i is v (look_chosen now a st i is f) z e (value (short_of_head q st i (min a.bytes_remaining size)))

      go : Checked (produce_checks store places buffer now size q) q r → Happens k q s []
      go (refuses n e) = refused_quiet s n [] refl e
      go (passes p e) = looked (look now q) refl (fine_look now q w) (nd (passed_none (produce_checks store places buffer now size q) p)) (inside 1 max_payload size p.1.1.1.0).0 e

  happens_threshold : (places j t : ℕ) → Happens k q (calls.step (set_threshold places j t) q) []
  unfolding calls.step Calls.set_threshold shown
  happens_threshold places j t = go (checks (threshold_checks places j q) q r)
    where
      s : Step
      s = calls.step (set_threshold places j t) q

      r : Step
      r = reply done (raised_event (stream_at q j) t) (know q (with_threshold t (stream_at q j)))

      go : Checked (threshold_checks places j q) q r → Happens k q s []
      go (refuses n e) = refused_quiet s n [] refl e
      go (passes p e) = quiet (ap (λ (x : Step). shown x.outcome.answer) e) refl (subst (λ (x : Step). Same k q x.next) (sym e) (known_same k q j (with_threshold t (stream_at q j)) w (at_id q.options q.streams j) refl refl refl))

  happens_priority : (j p : ℕ) → Happens k q (calls.step (set_priority j p) q) []
  unfolding calls.step Calls.set_priority shown
  happens_priority j p = go (checks (priority_checks j q) q r)
    where
      s : Step
      s = calls.step (set_priority j p) q

      r : Step
      r = reply done [] (know q (with_priority p (stream_at q j)))

      go : Checked (priority_checks j q) q r → Happens k q s []
      go (refuses n e) = refused_quiet s n [] refl e
      go (passes x e) = quiet (ap (λ (x : Step). shown x.outcome.answer) e) refl (subst (λ (x : Step). Same k q x.next) (sym e) (known_same k q j (with_priority p (stream_at q j)) w (at_id q.options q.streams j) refl refl refl))

  happens_discard : (places j m : ℕ) → (calls.step (discard places j m) q).next ≡ q → Happens k q (calls.step (discard places j m) q) []
  unfolding calls.step Calls.discard shown discard_at discarded
  happens_discard places j m u = go (checks (discard_checks places) q (discard_at m q (head_of (find_stream j q.streams))))
    where
      s : Step
      s = calls.step (discard places j m) q

      silent : (h : Head) → shown (discard_at m q h).outcome.answer ≡ []
      silent no_head = refl
      silent (head st i is) = split (eqb i.message_id m) (short_of q st (remaining i))
        where
          split : (x y : Bool) → shown (if x then (if y then refuse q 16 else reply done (Rattle.queue_model.specs.Amounts.drop_head_events q st i) (produce.drop_in st.pause_state q st i is)) else reply done [] q).outcome.answer ≡ []
          split true true = refl
          split true false = refl
          split false y = refl

      go : Checked (discard_checks places) q (discard_at m q (head_of (find_stream j q.streams))) → Happens k q s []
      go (refuses n e) = refused_quiet s n [] refl e
      go (passes p e) = unchanged k q s [] (ap (λ (x : Step). shown x.outcome.answer) e ∙ silent (head_of (find_stream j q.streams))) refl u

-- Interleaving: off stays off for DATA.
happens_interleaving : (k : Kind) (q : Queue) (b : Bool) → Undisturbing k (set_interleaving b) q → Off k q → Happens k q (calls.step (set_interleaving b) q) []
unfolding calls.step Calls.set_interleaving shown same_bool switched
happens_interleaving DATA q b m o = quiet refl refl (subst (λ (x : Bool). Same DATA q (if x then q else switched b q)) (sym (ap₂ same_bool m o)) (same_refl DATA q))
happens_interleaving I-DATA q b m o = quiet refl refl (go (same_bool b q.interleaving))
  where
    go : (x : Bool) → Same I-DATA q (if x then q else switched b q)
    go true = same_refl I-DATA q
    go false = record { next_id = refl; items = λ j. refl; counters = λ j. refl; pause = λ j. refl; waits = refl; still = tt }

-- ---- all streams are open

-- No stream was closed.
abbrev pub AllOpen : Queue → Type 0
AllOpen q = (j : ℕ) → (stream_at q j).pause_state ≡ not_paused

every_open : (q : Queue) → Well q → AllOpen q → Every IsOpen q.streams
every_open q w o =
    every_weaken (λ (s : Stream). find_stream s.id q.streams ≡ some s) IsOpen q.streams (λ s e. ap (λ (x : Stream). x.pause_state) (sym (at_found q.options q.streams s.id s e)) ∙ o s.id)
    (every_own stream_key q.streams w.rising)

map_open : (f : Stream → Stream) → ((s : Stream) → IsOpen s → f s ≡ s) → (ss : List Stream) → Every IsOpen ss → map f ss ≡ ss
map_open f h [] e = refl
map_open f h (s ∷ ss) e = ap₂ ◌∷◌ (h s e.0) (map_open f h ss e.1)

each_open : (il : Bool) (test : Stream → Bool) (sc : Scheduler) → ((s : Stream) → IsOpen s → test s ≡ false) → (ss : List Stream) → Every IsOpen ss → reschedule_each il test ss sc ≡ sc
unfolding reschedule_each
each_open il test sc h [] e = refl
each_open il test sc h (s ∷ ss) e = ap (λ (b : Bool). reschedule_each il test ss (if b then reschedule il s sc else sc)) (h s e.0) ∙ each_open il test sc h ss e.1

paused_no : (s : Stream) → IsOpen s → is_paused s ≡ false
unfolding is_paused
paused_no s e = ap (λ (p : PauseState). elim p [ not_paused ↦ false | pending ↦ false | paused ↦ true | resetting ↦ false ]) e

resetting_no : (s : Stream) → IsOpen s → is_resetting s ≡ false
unfolding is_resetting
resetting_no s e = ap (λ (p : PauseState). elim p [ not_paused ↦ false | pending ↦ false | paused ↦ false | resetting ↦ true ]) e

ready_none : (q : Queue) → Well q → AllOpen q → (Calls.ready_ids q).next ≡ q
unfolding Calls.ready_ids paused_to_resetting
ready_none q w o =
    ap (λ (ss : List Stream). with_state q q.total ss q.scheduler) (map_open paused_to_resetting (λ s e. ap (λ (b : Bool). if b then model_with_pause resetting s else s) (paused_no s e)) q.streams (every_open q w o))

reopen_none : (z : Bool) (q : Queue) → Well q → AllOpen q → (reopen z q).next ≡ q
unfolding reopen reopened
reopen_none z q w o =
    let e = every_open q w o in
    ap₂ (λ (ss : List Stream) (sc : Scheduler). with_state q q.total ss sc) (map_open (reopened z) (λ s e. ap (λ (b : Bool). if b then opened z s else s) (resetting_no s e)) q.streams e)
    (each_open q.interleaving (λ s. is_resetting s && has_items s) q.scheduler (λ s e. ap (λ (b : Bool). b && has_items s) (resetting_no s e)) q.streams e)

pub happens : (k : Kind) (q : Queue) (c : calls.Call) → Well q → Undisturbing k c q → Off k q → AllOpen q → Happens k q (calls.step c q) (taken_in c (calls.step c q).outcome.answer)
unfolding calls.step taken_in shown Calls.ready_ids Calls.commit Calls.rollback
happens k q (add store now m) w u o a = happens_add k q w store now m
happens k q (produce store places buffer now size) w u o a = happens_produce k q w store places buffer now size u
happens k q (fill store places buffer now p) w u o a = absurd u
happens k q (discard places s m) w u o a = happens_discard k q w places s m u
happens k q (close places s) w u o a = absurd u
happens k q ready_ids w u o a = unchanged k q (calls.step ready_ids q) [] refl refl (ready_none q w a)
happens k q commit w u o a = unchanged k q (calls.step commit q) [] refl refl (reopen_none true q w a)
happens k q rollback w u o a = unchanged k q (calls.step rollback q) [] refl refl (reopen_none false q w a)
happens k q reset w u o a = absurd u
happens k q (set_threshold places s t) w u o a = happens_threshold k q w places s t
happens k q (set_priority s p) w u o a = happens_priority k q w s p
happens k q (set_interleaving b) w u o a = happens_interleaving k q b u o
happens k q (restore store now image) w u o a = absurd u
happens k q (ask_priority s) w u o a = quiet refl refl (same_refl k q)
happens k q (ask_amount s) w u o a = quiet refl refl (same_refl k q)
happens k q (ask_threshold s) w u o a = quiet refl refl (same_refl k q)
happens k q ask_total w u o a = quiet refl refl (same_refl k q)
happens k q ask_empty w u o a = quiet refl refl (same_refl k q)
happens k q ask_has_data w u o a = quiet refl refl (same_refl k q)
happens k q ask_streams_ready w u o a = quiet refl refl (same_refl k q)
happens k q ask_ready_count w u o a = quiet refl refl (same_refl k q)
happens k q ask_readiness w u o a = quiet refl refl (same_refl k q)
happens k q (ask_room r) w u o a = quiet refl refl (same_refl k q)
