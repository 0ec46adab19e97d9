-- In every reachable queue an open or a pending stream with messages has an entry in the scheduler: every call keeps it so. Assumes nothing.
use mathlib.Core.Path.{◌≡◌, refl, sym, ap, subst, ◌∙◌}
use mathlib.Core.Bool.{Bool, true, false, not, ◌&&◌}
use mathlib.Core.List.{List, [], ◌∷◌, ◌++◌, map}
use mathlib.Core.Option.{Option, none, some, get_or}
use Prim.Native.Nat.{ℕ, zero, suc, ◌-◌, ◌≤◌, ◌<◌, min}
use native.Mathlib.Omega.{arith}
use lib.Dec.{eqb, leb, ltb}
use borrow.Author.Tests.{lt-leb}
use lib.ListN.{length}
use Rattle.std.specs.Prelude.{if◌then◌else◌}
use Rattle.queue_model.specs.Logic.{same_bool, is_some}
use Rattle.queue_model.specs.Types.{Item, PauseState, not_paused, pending, paused, resetting, Stream, Active, Weight, Scheduler, Options, Queue, Event, done, fragment, Step, remaining, expired, with_items, model_with_pause, with_threshold, with_priority, refuse, reply, Message}
use Rattle.queue_model.specs.Scheduler.{active_key, find_active, put_active, scheduled, start_of, moved, remove_stream, set_bytes_remaining, peek, accept_last, accept_part, accept}
use Rattle.queue_model.specs.Streams.{find_stream, put_stream, stream_at, waiting, know, stream_key, with_message, some_items, has_items, head_size, weight_of, reschedule, reschedule_each, new_queue}
use Rattle.queue_model.specs.Refusals.{Check, checked, short_of, short_of_head, max_payload}
use Rattle.queue_model.specs.Amounts.{sent_events, drop_head_events}
use Rattle.queue_model.specs.Add.{starts_waiting, started, added, add_checks, new_item}
use Rattle.queue_model.specs.Produce.{Head, head_of, drop_head, drop_in, Look, nothing, broken, dropped, chosen, look_expired, look_at, look_for, look, numbered, make_fragment, end_pending, next_size, moved_on, handed_out_last, handed_out_part, handed_out, hand_out, after_look, pass_over, produce_checks}
use Rattle.queue_model.specs.Discard.{discarded, discard_at, discard_checks}
use Rattle.queue_model.specs.Close.{kept, closed_state, closed_scheduler, closed, close_in, close_checks}
use Rattle.queue_model.specs.Reset.{is_paused, is_resetting, paused_to_resetting, opened, reopened, reopen, reset_stream, reset_checks}
use Rattle.queue_model.specs.Settings.{threshold_checks, priority_checks, raised_event, switched}
use Rattle.queue_model.specs.Questions.{amount_of}
use Rattle.queue_model.specs.Image.{Handover}
use Rattle.queue_model.specs.Reader.{read_image}
use Rattle.queue_model.specs.Restore.{remember_half_sent, restored, record_checks, restore_read, restore_checks}
use Rattle.queue_model.specs.Run.{Call, add, produce, fill, discard, close, ready_ids, commit, rollback, reset, set_threshold, set_priority, set_interleaving, restore, ask_priority, ask_amount, ask_threshold, ask_total, ask_empty, ask_has_data, ask_streams_ready, ask_ready_count, ask_readiness, ask_room, step}
use Rattle.queue_model.specs.Demands.{Typed, Reachable, created, called}
use Rattle.queue_model.specs.Waiting.{is_waiting, WaitsBy, WaitingSeen}
use Rattle.queue_model.proofs.Table.{find_here, find_there, find_key, find_put_same, find_put_other, find_without_other, find_after, own, other, is_own, not_in_nil, found, missing, look_up, Rising, Every, every_find}
use Rattle.queue_model.proofs.Tests.{eqb_true, ltb_true}
use Rattle.queue_model.proofs.Checks.{Passed, checked_past, checked_either}
use Rattle.queue_model.proofs.Scheduler.{set_none, set_some, each_nil, each_cons}
use Rattle.queue_model.proofs.Streams.{at_found, at_new, at_id, unsent_bytes}
use Rattle.queue_model.proofs.Invariant.Messages.{WellItems}
use Rattle.queue_model.proofs.Invariant.Waits.{Listed, Holds, holds_put_own, holds_put, scheduled_id}
use Rattle.queue_model.proofs.Invariant.Well.{Kept, Well, inside, kept_at, well_tail}
use Rattle.queue_model.proofs.Invariant.Fine.{paused_alike, reopened_alike, keeps_none, keeps_first, keeps}
use Rattle.queue_model.proofs.Invariant.Sends.{FineLook, Chosen, headless, headed, heads, head_of_at, head_well, head_for, fine_look, fine_produce}
use Rattle.queue_model.proofs.Fill.Calls.{fill_keeps}
use Rattle.queue_model.proofs.Invariant.Sixteen.{fine_step, reachable_well}
use Rattle.queue_model.proofs.Calm.Calm.{HeadAt}
use Rattle.queue_model.specs.Calls
use Rattle.queue_model.specs.Restore

-- ---- what is served

-- A stream with messages has an entry.
abbrev pub Entered : List Active → ℕ → List Item → Type 0
Entered as' k [] = Unit {0}
Entered as' k (i ∷ is) = Holds k as'

abbrev pub Served : List Active → ℕ → PauseState → List Item → Type 0
Served as' k not_paused is = Entered as' k is
Served as' k pending is = Entered as' k is
Served as' k paused is = Unit {0}
Served as' k resetting is = Unit {0}

abbrev pub Serves : List Stream → Scheduler → Type 0
Serves ss sc = (k : ℕ) (s : Stream) → find_stream k ss ≡ some s → Served sc.active k s.pause_state s.items

entered_of : (as' : List Active) (k : ℕ) (is : List Item) → (0 < head_size is → Holds k as') → WellItems is → Entered as' k is
unfolding head_size
entered_of as' k [] h w = tt
entered_of as' k (i ∷ is) h w = let u = w.0.unsent in h (omega arith)

entered_kept : (as' bs : List Active) (k : ℕ) (is : List Item) → (Holds k as' → Holds k bs) → Entered as' k is → Entered bs k is
entered_kept as' bs k [] f h = tt
entered_kept as' bs k (i ∷ is) f h = f h

served_kept : (as' bs : List Active) (k : ℕ) (p : PauseState) (is : List Item) → (Holds k as' → Holds k bs) → Served as' k p is → Served bs k p is
served_kept as' bs k not_paused is f h = entered_kept as' bs k is f h
served_kept as' bs k pending is f h = entered_kept as' bs k is f h
served_kept as' bs k paused is f h = tt
served_kept as' bs k resetting is f h = tt

-- a stream that has an entry if it has messages is served, whatever its state
served_any : (as' : List Active) (k : ℕ) (p : PauseState) (is : List Item) → Entered as' k is → Served as' k p is
served_any as' k not_paused is h = h
served_any as' k pending is h = h
served_any as' k paused is h = tt
served_any as' k resetting is h = tt

-- the entries of other streams stay
abbrev Stay : ℕ → Scheduler → Scheduler → Type 0
Stay j sc sc' = (k : ℕ) → (j ≡ k → ⊥) → Holds k sc.active → Holds k sc'.active

serves_put : (t : Stream) (ss : List Stream) (sc sc' : Scheduler) → Stay t.id sc sc' → Served sc'.active t.id t.pause_state t.items → Serves ss sc → Serves (put_stream t ss) sc'
serves_put t ss sc sc' f g h k s e = elim (is_own stream_key t k) [
  | own z ↦ (let b : find_stream k (put_stream t ss) ≡ some t = subst (λ (x : ℕ). find_stream x (put_stream t ss) ≡ some t) z (find_put_same stream_key t ss) in let a : t ≡ s = cc (b, e) in
      subst (λ (x : Stream). Served sc'.active k x.pause_state x.items) a (subst (λ (n : ℕ). Served sc'.active n t.pause_state t.items) z g))
  | other n ↦ served_kept sc.active sc'.active k s.pause_state s.items (f k n) (h k s (sym (find_put_other stream_key k t ss n) ∙ e))
]

-- ---- the scheduler

stay_same : (j : ℕ) (sc : Scheduler) → Stay j sc sc
stay_same j sc k n h = h

stay_remove : (j : ℕ) (sc : Scheduler) → Stay j sc (remove_stream j sc)
unfolding remove_stream
stay_remove j sc k n h = (h.0, find_without_other active_key k j sc.active (λ e. n (sym e)) ∙ h.1)

stay_set : (j n : ℕ) (w : Weight) (sc : Scheduler) → Stay j sc (set_bytes_remaining j n w sc)
stay_set j zero w sc k n h = subst (λ (x : Scheduler). Holds k x.active) (sym (set_none j w sc)) (stay_remove j sc k n h)
stay_set j (suc b) w sc k n h =
    subst (λ (x : Scheduler). Holds k x.active) (sym (set_some j (suc b) w sc (omega arith)))
    (holds_put k (scheduled sc.payload_limit j w (start_of sc.system_time (find_active j sc.active)) (suc b)) sc.active h)

holds_set : (j n : ℕ) (w : Weight) (sc : Scheduler) → 0 < n → Holds j (set_bytes_remaining j n w sc).active
holds_set j n w sc l =
    let a : Active = scheduled sc.payload_limit j w (start_of sc.system_time (find_active j sc.active)) n in
    subst (λ (x : Scheduler). Holds j x.active) (sym (set_some j n w sc l))
    (subst (λ (x : ℕ). Holds x (put_active a sc.active)) (scheduled_id sc.payload_limit j w (start_of sc.system_time (find_active j sc.active)) n) (holds_put_own a sc.active))

stay_reschedule : (il : Bool) (s : Stream) (sc : Scheduler) → Stay s.id sc (reschedule il s sc)
unfolding reschedule
stay_reschedule il s sc = stay_set s.id (head_size s.items) (weight_of il s) sc

holds_reschedule : (il : Bool) (s : Stream) (sc : Scheduler) → 0 < head_size s.items → Holds s.id (reschedule il s sc).active
unfolding reschedule
holds_reschedule il s sc l = holds_set s.id (head_size s.items) (weight_of il s) sc l

entered_reschedule : (il : Bool) (s : Stream) (sc : Scheduler) → WellItems s.items → Entered (reschedule il s sc).active s.id s.items
entered_reschedule il s sc w = entered_of (reschedule il s sc).active s.id s.items (holds_reschedule il s sc) w

stay_accept : (a : Active) (n : ℕ) (sc : Scheduler) → Stay a.stream_id sc (accept a n sc)
unfolding accept accept_last accept_part
stay_accept a n sc k d h = go (leb a.bytes_remaining n)
  where
    go : (b : Bool) → Holds k (if b then accept_last a n sc else accept_part a n sc).active
    go true = stay_remove a.stream_id (record { payload_limit = sc.payload_limit; current = some a.stream_id; system_time = moved a n; active = sc.active }) k d h
    go false = holds_put k (scheduled sc.payload_limit a.stream_id a.weight (moved a n) (a.bytes_remaining - n)) sc.active h

holds_accept : (a : Active) (n : ℕ) (sc : Scheduler) → n < a.bytes_remaining → Holds a.stream_id (accept a n sc).active
unfolding accept accept_part
holds_accept a n sc l =
    let e : Active = scheduled sc.payload_limit a.stream_id a.weight (moved a n) (a.bytes_remaining - n) in
    let f = lt-leb a.bytes_remaining n l in
    rw f (subst (λ (x : ℕ). Holds x (put_active e sc.active)) (scheduled_id sc.payload_limit a.stream_id a.weight (moved a n) (a.bytes_remaining - n)) (holds_put_own e sc.active))

-- ---- every stream of a list that passes a test is let wait

module _ (il : Bool) (test : Stream → Bool) where
  one_stays : (s : Stream) (sc : Scheduler) (b : Bool) → Stay s.id sc (if b then reschedule il s sc else sc)
  one_stays s sc true = stay_reschedule il s sc
  one_stays s sc false = stay_same s.id sc

  each_stays : (ss : List Stream) (sc : Scheduler) (k : ℕ) → find_stream k ss ≡ none → Holds k sc.active → Holds k (reschedule_each il test ss sc).active
  each_stays [] sc k e h = subst (λ (x : Scheduler). Holds k x.active) (sym (each_nil il test sc)) h
  each_stays (s ∷ ss) sc k e h = subst (λ (x : Scheduler). Holds k x.active) (sym (each_cons il test s ss sc)) (elim (is_own stream_key s k) [
    | own g ↦ (let z : ◌≡◌ {A = ℕ} 0 1 = cc (find_here stream_key k s ss g, e) in absurd (omega arith))
    | other n ↦ each_stays ss (if test s then reschedule il s sc else sc) k (sym (find_there stream_key k s ss n) ∙ e) (one_stays s sc (test s) k n h)
  ])

  -- what passes has an entry, if it has messages; what does not keeps its
  abbrev Each : Bool → ℕ → List Item → Scheduler → Scheduler → Type 0
  Each true k is sc sc' = Entered sc'.active k is
  Each false k is sc sc' = Holds k sc.active → Holds k sc'.active

  each_first : (s : Stream) (ss : List Stream) (sc : Scheduler) (b : Bool) → WellItems s.items → find_stream s.id ss ≡ none → Each b s.id s.items sc (reschedule_each il test ss (if b then reschedule il s sc else sc))
  each_first s ss sc true w e = entered_kept (reschedule il s sc).active (reschedule_each il test ss (reschedule il s sc)).active s.id s.items (each_stays ss (reschedule il s sc) s.id e) (entered_reschedule il s sc w)
  each_first s ss sc false w e = each_stays ss sc s.id e

  each_through : (b : Bool) (k : ℕ) (is : List Item) (sc sc₁ sc₂ : Scheduler) → (Holds k sc.active → Holds k sc₁.active) → Each b k is sc₁ sc₂ → Each b k is sc sc₂
  each_through true k is sc sc₁ sc₂ f h = h
  each_through false k is sc sc₁ sc₂ f h = λ x. h (f x)

  each_does : (ss : List Stream) (sc : Scheduler) (k : ℕ) (s : Stream) → Rising stream_key ss → Every Kept ss → find_stream k ss ≡ some s → Each (test s) k s.items sc (reschedule_each il test ss sc)
  each_does [] sc k s r w e = absurd (not_in_nil stream_key k s e)
  each_does (t ∷ ss) sc k s r w e = subst (Each (test s) k s.items sc) (sym (each_cons il test t ss sc)) (elim (is_own stream_key t k) [
    | own g ↦ (let z : t ≡ s = cc (find_here stream_key k t ss g, e) in
        subst (λ (x : Stream). Each (test x) k x.items sc (reschedule_each il test ss (if test t then reschedule il t sc else sc))) z
        (subst (λ (n : ℕ). Each (test t) n t.items sc (reschedule_each il test ss (if test t then reschedule il t sc else sc))) g
        (each_first t ss sc (test t) w.0.well_items (find_after stream_key t.id ss r.0))))
    | other n ↦ each_through (test s) k s.items sc (if test t then reschedule il t sc else sc) (reschedule_each il test ss (if test t then reschedule il t sc else sc)) (one_stays t sc (test t) k n)
        (each_does ss (if test t then reschedule il t sc else sc) k s r.1 w.1 (sym (find_there stream_key k t ss n) ∙ e))
  ])

-- all streams with messages wait: they are served
some_entered : (as' : List Active) (k : ℕ) (b : Bool) (is : List Item) → b ≡ some_items is → (b ≡ true → Entered as' k is) → Entered as' k is
unfolding some_items
some_entered as' k b [] e h = tt
some_entered as' k b (i ∷ is) e h = h e

each_true : (il : Bool) (test : Stream → Bool) (b : Bool) (k : ℕ) (is : List Item) (sc sc' : Scheduler) → Each il test b k is sc sc' → b ≡ true → Entered sc'.active k is
each_true il test true k is sc sc' h e = h
each_true il test false k is sc sc' h e = let z : ◌≡◌ {A = ℕ} 0 1 = cc in absurd (omega arith)

each_items : (il : Bool) (ss : List Stream) (sc : Scheduler) → Rising stream_key ss → Every Kept ss → Serves ss (reschedule_each il has_items ss sc)
unfolding has_items
each_items il ss sc r w k s e =
    let x : Scheduler = reschedule_each il has_items ss sc in
    served_any x.active k s.pause_state s.items
    (some_entered x.active k (has_items s) s.items refl (each_true il has_items (has_items s) k s.items sc x (each_does il has_items ss sc k s r w e)))

-- ---- calls

serves_checked : (cs : List Check) (q : Queue) (s : Step) → Serves q.streams q.scheduler → (Passed cs → Serves s.next.streams s.next.scheduler) → Serves (checked cs q s).next.streams (checked cs q s).next.scheduler
serves_checked cs q s a h = checked_either (λ (x : Step). Serves x.next.streams x.next.scheduler) cs q s (λ r. a) h

-- the stream of an id, known or new
serves_at : (q : Queue) (j : ℕ) → Serves q.streams q.scheduler → Served q.scheduler.active (stream_at q j).id (stream_at q j).pause_state (stream_at q j).items
serves_at q j a = elim (look_up stream_key j q.streams) [
  | found s e ↦ subst (λ (x : Stream). Served q.scheduler.active x.id x.pause_state x.items) (sym (at_found q.options q.streams j s e)) (subst (λ (n : ℕ). Served q.scheduler.active n s.pause_state s.items) (sym (find_key stream_key j q.streams s e)) (a j s e))
  | missing e ↦ subst (λ (x : Stream). Served q.scheduler.active x.id x.pause_state x.items) (sym (at_new q.options q.streams j e)) tt
]

-- ---- add

module _ (k : ℕ) (i : Item) (v : Weight) (sc : Scheduler) where
  abbrev Started : PauseState → List Item → Scheduler
  Started p is = if starts_waiting p && not (some_items is) then set_bytes_remaining k (head_size (is ++ (i ∷ []))) v sc else sc

  served_started : (p : PauseState) (is : List Item) → 0 < remaining i → Served sc.active k p is → Served (Started p is).active k p (is ++ (i ∷ []))
  unfolding starts_waiting some_items head_size
  served_started not_paused [] l h = holds_set k (remaining i) v sc l
  served_started not_paused (y ∷ ys) l h = h
  served_started pending [] l h = holds_set k (remaining i) v sc l
  served_started pending (y ∷ ys) l h = h
  served_started paused is l h = tt
  served_started resetting is l h = tt

  stay_started : (p : PauseState) (is : List Item) → Stay k sc (Started p is)
  stay_started p is = go (starts_waiting p && not (some_items is))
    where
      go : (b : Bool) → Stay k sc (if b then set_bytes_remaining k (head_size (is ++ (i ∷ []))) v sc else sc)
      go true = stay_set k (head_size (is ++ (i ∷ []))) v sc
      go false = stay_same k sc

serves_add : (store now : ℕ) (x : Message) (q : Queue) → Serves q.streams q.scheduler → Serves (Calls.add store now x q).next.streams (Calls.add store now x q).next.scheduler
unfolding Calls.add added new_item started has_items reschedule
serves_add store now x q a =
    serves_checked (add_checks store now x q) q (reply done [] (added now x q)) a (λ p.
    let s : Stream = stream_at q x.stream_id in let i : Item = new_item now q.next_message_id x in
    let l = (inside 1 max_payload (length x.payload) p.1.1.1.0).0 in
    let v : Weight = weight_of q.interleaving (with_message s i) in
    serves_put (with_message s i) q.streams q.scheduler (Started s.id i v q.scheduler s.pause_state s.items) (stay_started s.id i v q.scheduler s.pause_state s.items)
    (served_started s.id i v q.scheduler s.pause_state s.items (omega arith) (serves_at q x.stream_id a)) a)

-- ---- a head that leaves, whole or in part

served_next : (k : ℕ) (v : Weight) (sc : Scheduler) (p : PauseState) (is : List Item) → WellItems is → Served (set_bytes_remaining k (next_size (end_pending p) is) v sc).active k (end_pending p) is
unfolding end_pending next_size
served_next k v sc not_paused is w = entered_of (set_bytes_remaining k (head_size is) v sc).active k is (holds_set k (head_size is) v sc) w
served_next k v sc pending is w = tt
served_next k v sc paused is w = tt
served_next k v sc resetting is w = tt

module _ (q : Queue) (j : ℕ) (s : Stream) (i : Item) (is : List Item) (w : Well q) (h : HeadAt q.streams j s i is) (a : Serves q.streams q.scheduler) where
  behind_well : WellItems is
  behind_well = well_tail is (head_well q j s i is w h).1

  serves_drop_head : Serves (drop_head q s i is).streams (drop_head q s i is).scheduler
  unfolding drop_head
  serves_drop_head =
      let t : Stream = with_items s (s.amount - remaining i) is in
      serves_put t q.streams q.scheduler (reschedule q.interleaving t q.scheduler) (stay_reschedule q.interleaving t q.scheduler)
      (served_any (reschedule q.interleaving t q.scheduler).active s.id s.pause_state is (entered_reschedule q.interleaving t q.scheduler behind_well)) a

  serves_drop_in : (p : PauseState) → Serves (drop_in p q s i is).streams (drop_in p q s i is).scheduler
  unfolding drop_in
  serves_drop_in not_paused = serves_drop_head
  serves_drop_in pending = serves_put (model_with_pause paused (with_items s (s.amount - remaining i) is)) q.streams q.scheduler (remove_stream s.id q.scheduler) (stay_remove s.id q.scheduler) tt a
  serves_drop_in paused = serves_drop_head
  serves_drop_in resetting = serves_drop_head

  head_id : s.id ≡ j
  head_id = find_key stream_key j q.streams s h.found

  serves_handed : (c : Active) (n : ℕ) → c.stream_id ≡ j → c.bytes_remaining ≡ remaining i → n ≤ remaining i → Serves (handed_out q c s i is n).streams (handed_out q c s i is n).scheduler
  unfolding handed_out handed_out_last handed_out_part moved_on
  serves_handed c n mine size few = go (eqb n (remaining i)) refl
    where
      same : c.stream_id ≡ s.id
      same = mine ∙ sym head_id

      stays : Stay s.id q.scheduler (accept c n q.scheduler)
      stays = subst (λ (x : ℕ). Stay x q.scheduler (accept c n q.scheduler)) same (stay_accept c n q.scheduler)

      go : (b : Bool) → eqb n (remaining i) ≡ b → Serves (if b then handed_out_last q c s i is n else handed_out_part q c s i is n).streams (if b then handed_out_last q c s i is n else handed_out_part q c s i is n).scheduler
      go true e =
          let v : Weight = weight_of q.interleaving s in
          let sc : Scheduler = accept c n q.scheduler in
          serves_put _ q.streams q.scheduler (set_bytes_remaining s.id (next_size (end_pending s.pause_state) is) v sc)
          (λ k d x. stay_set s.id (next_size (end_pending s.pause_state) is) v sc k d (stays k d x))
          (served_next s.id v sc s.pause_state is behind_well) a
      go false e =
          let l : n < c.bytes_remaining = fewer in
          serves_put _ q.streams q.scheduler (accept c n q.scheduler) stays
          (served_any (accept c n q.scheduler).active s.id s.pause_state (moved_on (numbered s.counters i).item n ∷ is) (subst (λ (x : ℕ). Holds x (accept c n q.scheduler).active) same (holds_accept c n q.scheduler l))) a
        where
          other_size : n ≡ remaining i → ⊥
          other_size z = let t = eqb_true z in let y : ◌≡◌ {A = ℕ} 0 1 = cc in omega arith

          fewer : n < c.bytes_remaining
          fewer = omega (arith, other_size)

-- ---- discard

abbrev AtEase : Queue → Type 0
AtEase q = Serves q.streams q.scheduler

serves_discard_at : (x j : ℕ) (q : Queue) → Well q → AtEase q → AtEase (discard_at x q (head_of (find_stream j q.streams))).next
unfolding discard_at discarded
serves_discard_at x j q w a = elim (heads q.streams j) [
  | headless e n ↦ subst (λ (y : Head). AtEase (discard_at x q y).next) (sym e) a
  | headed s i is h ↦ subst (λ (y : Head). AtEase (discard_at x q y).next) (sym (head_of_at q.streams j s i is h)) (go s i is h (eqb i.message_id x) (short_of q s (remaining i)))
]
  where
    go : (s : Stream) (i : Item) (is : List Item) → HeadAt q.streams j s i is → (b c : Bool)
        → AtEase (if b then (if c then refuse q 16 else reply done (drop_head_events q s i) (drop_in s.pause_state q s i is)) else reply done [] q).next
    go s i is h true true = a
    go s i is h true false = serves_drop_in q j s i is w h a s.pause_state
    go s i is h false c = a

serves_discard : (places j x : ℕ) (q : Queue) → Well q → AtEase q → AtEase (Calls.discard places j x q).next
unfolding Calls.discard
serves_discard places j x q w a = serves_checked (discard_checks places) q (discard_at x q (head_of (find_stream j q.streams))) a (λ p. serves_discard_at x j q w a)

-- ---- next fragment

abbrev LookServes : Look → Type 0
LookServes nothing = Unit {0}
LookServes broken = Unit {0}
LookServes (dropped r ds) = AtEase r
LookServes (chosen c s i is) = Unit {0}

serves_look : (now : ℕ) (q : Queue) → Well q → AtEase q → LookServes (look now q)
unfolding look look_for look_at look_expired
serves_look now q w a = go (peek q.scheduler)
  where
    drops : (c : Active) (s : Stream) (i : Item) (is : List Item) → HeadAt q.streams c.stream_id s i is → (x y : Bool)
        → LookServes (if x then (if y then broken else dropped (drop_in s.pause_state q s i is) (drop_head_events q s i)) else chosen c s i is)
    drops c s i is h true true = tt
    drops c s i is h true false = serves_drop_in q c.stream_id s i is w h a s.pause_state
    drops c s i is h false y = tt

    at_one : (c : Active) → LookServes (look_at now q c (head_of (find_stream c.stream_id q.streams)))
    at_one c = elim (heads q.streams c.stream_id) [
      | headless e n ↦ subst (λ (x : Head). LookServes (look_at now q c x)) (sym e) tt
      | headed s i is h ↦ subst (λ (x : Head). LookServes (look_at now q c x)) (sym (head_of_at q.streams c.stream_id s i is h)) (drops c s i is h (expired now i.expires_at) (short_of q s (remaining i)))
    ]

    go : (x : Option Active) → LookServes (look_for now q x)
    go none = tt
    go (some c) = at_one c

abbrev MaybeServes : Option Step → Type 0
MaybeServes none = Unit {0}
MaybeServes (some s) = AtEase s.next

serves_hand_out : (size : ℕ) (q : Queue) (es : List Event) (c : Active) (s : Stream) (i : Item) (is : List Item) → Well q → Chosen q c s i is → AtEase q → MaybeServes (hand_out size q es c s i is)
unfolding hand_out
serves_hand_out size q es c s i is w f a = go (short_of_head q s i n)
  where
    n : ℕ
    n = min c.bytes_remaining size

    sent : Step
    sent = reply (fragment (make_fragment s (numbered s.counters i).item n)) (es ++ sent_events q s n) (handed_out q c s i is n)

    few : n ≤ remaining i
    few = let z = f.choice_size in omega arith

    go : (b : Bool) → MaybeServes (if b then none else some sent)
    go true = tt
    go false = serves_handed q c.stream_id s i is w f.choice_head a c n refl f.choice_size few

serves_after : (again : Queue → List Event → Option Step) (size : ℕ) (q : Queue) (es : List Event) (l : Look) → Well q → FineLook q l → LookServes l → AtEase q
    → ((r : Queue) (ds : List Event) → Well r → AtEase r → MaybeServes (again r ds)) → MaybeServes (after_look again size q es l)
unfolding after_look
serves_after again size q es nothing w f g a h = a
serves_after again size q es broken w f g a h = tt
serves_after again size q es (dropped r ds) w f g a h = h r (es ++ ds) f.0 g
serves_after again size q es (chosen c s i is) w f g a h = serves_hand_out size q es c s i is w f a

serves_pass : (turns now size : ℕ) (q : Queue) (es : List Event) → Well q → AtEase q → MaybeServes (pass_over turns now size q es)
unfolding pass_over
serves_pass zero now size q es w a = tt
serves_pass (suc turns) now size q es w a = serves_after (λ r ds. pass_over turns now size r ds) size q es (look now q) w (fine_look now q w) (serves_look now q w a) a (λ r ds u b. serves_pass turns now size r ds u b)

serves_default : (q : Queue) (x : Option Step) → AtEase q → MaybeServes x → AtEase (get_or x (refuse q 16)).next
serves_default q none a f = a
serves_default q (some s) a f = f

serves_produce : (store places buffer now size : ℕ) (q : Queue) → Well q → AtEase q → AtEase (Calls.produce store places buffer now size q).next
unfolding Calls.produce
serves_produce store places buffer now size q w a =
    let x : Option Step = pass_over (suc (waiting q.streams)) now size q [] in
    serves_checked (produce_checks store places buffer now size q) q (get_or x (refuse q 16)) a
    (λ p. serves_default q x a (serves_pass (suc (waiting q.streams)) now size q [] w a))

-- ---- close

stay_closed : (s : Stream) (is : List Item) (sc : Scheduler) → Stay s.id sc (closed_scheduler s is sc)
unfolding closed_scheduler
stay_closed s [] sc = go (has_items s)
  where
    go : (b : Bool) → Stay s.id sc (if b then remove_stream s.id sc else sc)
    go true = stay_remove s.id sc
    go false = stay_same s.id sc
stay_closed s (i ∷ is) sc = stay_same s.id sc

served_closed : (s : Stream) (is : List Item) (sc : Scheduler) → Entered sc.active s.id is → Served (closed_scheduler s is sc).active s.id (closed_state is) is
unfolding closed_scheduler closed_state
served_closed s [] sc h = tt
served_closed s (i ∷ is) sc h = h

entered_kept_part : (as' : List Active) (k : ℕ) (is : List Item) → WellItems is → Entered as' k is → Entered as' k (kept is)
entered_kept_part as' k is w h = elim (keeps is w) [
  | keeps_none e ↦ subst (Entered as' k) (sym e) tt
  | keeps_first i rest e f l ↦ subst (Entered as' k) (sym f) (subst (Entered as' k) e h)
]

serves_close_in : (p : PauseState) (q : Queue) (j : ℕ) → Kept (stream_at q j) → (stream_at q j).pause_state ≡ p → AtEase q → AtEase (close_in p q (stream_at q j)).next
unfolding close_in closed
serves_close_in not_paused q j g e a =
    let s : Stream = stream_at q j in
    let h : Entered q.scheduler.active s.id s.items = subst (λ (p : PauseState). Served q.scheduler.active s.id p s.items) e (serves_at q j a) in
    serves_put _ q.streams q.scheduler (closed_scheduler s (kept s.items) q.scheduler) (stay_closed s (kept s.items) q.scheduler)
    (served_closed s (kept s.items) q.scheduler (entered_kept_part q.scheduler.active s.id s.items g.well_items h)) a
serves_close_in pending q j g e a = a
serves_close_in paused q j g e a = a
serves_close_in resetting q j g e a = a

serves_close : (places j : ℕ) (q : Queue) → Kept (stream_at q j) → AtEase q → AtEase (Calls.close places j q).next
unfolding Calls.close
serves_close places j q g a =
    let s : Stream = stream_at q j in
    serves_checked (close_checks places j q) q (close_in s.pause_state q s) a (λ p. serves_close_in s.pause_state q j g refl a)

-- ---- ready ids, commit, rollback and the whole-queue reset

module _ (f : Stream → Stream) (i : (s : Stream) → (f s).id ≡ s.id) where
  pub found_map : (k : ℕ) (ss : List Stream) (s : Stream) → find_stream k ss ≡ some s → find_stream k (map f ss) ≡ some (f s)
  found_map k [] s e = absurd (not_in_nil stream_key k s e)
  found_map k (t ∷ ss) s e = elim (is_own stream_key t k) [
    | own g ↦ (let z : t ≡ s = cc (find_here stream_key k t ss g, e) in find_here stream_key k (f t) (map f ss) (i t ∙ g) ∙ ap (λ (x : Stream). some (f x)) z)
    | other n ↦ find_there stream_key k (f t) (map f ss) (λ g. n (sym (i t) ∙ g)) ∙ found_map k ss s (sym (find_there stream_key k t ss n) ∙ e)
  ]

  missing_map : (k : ℕ) (ss : List Stream) → find_stream k ss ≡ none → find_stream k (map f ss) ≡ none
  missing_map k [] e = e
  missing_map k (t ∷ ss) e = elim (is_own stream_key t k) [
    | own g ↦ (let z : ◌≡◌ {A = ℕ} 0 1 = cc (find_here stream_key k t ss g, e) in absurd (omega arith))
    | other n ↦ find_there stream_key k (f t) (map f ss) (λ g. n (sym (i t) ∙ g)) ∙ missing_map k ss (sym (find_there stream_key k t ss n) ∙ e)
  ]

  serves_map : (ss : List Stream) (sc : Scheduler) → ((k : ℕ) (s : Stream) → find_stream k ss ≡ some s → Served sc.active k (f s).pause_state (f s).items) → Serves (map f ss) sc
  serves_map ss sc h k t e = elim (look_up stream_key k ss) [
    | found s g ↦ (let z : f s ≡ t = cc (found_map k ss s g, e) in subst (λ (x : Stream). Served sc.active k x.pause_state x.items) z (h k s g))
    | missing g ↦ (let z : ◌≡◌ {A = ℕ} 0 1 = cc (missing_map k ss g, e) in absurd (omega arith))
  ]

served_ready : (as' : List Active) (k : ℕ) (s : Stream) → Served as' k s.pause_state s.items → Served as' k (paused_to_resetting s).pause_state (paused_to_resetting s).items
unfolding paused_to_resetting
served_ready as' k s h = go (is_paused s)
  where
    go : (b : Bool) → Served as' k (if b then model_with_pause resetting s else s).pause_state (if b then model_with_pause resetting s else s).items
    go true = tt
    go false = h

serves_ready : (q : Queue) → AtEase q → AtEase (Calls.ready_ids q).next
unfolding Calls.ready_ids
serves_ready q a = serves_map paused_to_resetting (λ s. (paused_alike s).alike_id) q.streams q.scheduler (λ k s e. served_ready q.scheduler.active k s (a k s e))

served_opened : (as' : List Active) (k : ℕ) (z : Bool) (s : Stream) → Entered as' k s.items → Served as' k (opened z s).pause_state (opened z s).items
unfolding opened
served_opened as' k true s h = h
served_opened as' k false s h = h

abbrev resets : Stream → Bool
resets s = is_resetting s && has_items s

served_reopened : (il z : Bool) (k : ℕ) (s : Stream) (sc sc' : Scheduler) → Each il resets (resets s) k s.items sc sc' → Served sc.active k s.pause_state s.items → Served sc'.active k (reopened z s).pause_state (reopened z s).items
unfolding reopened has_items
served_reopened il z k s sc sc' d h = go (is_resetting s) d
  where
    go : (b : Bool) → Each il resets (b && some_items s.items) k s.items sc sc' → Served sc'.active k (if b then opened z s else s).pause_state (if b then opened z s else s).items
    go true x = served_opened sc'.active k z s (some_entered sc'.active k (some_items s.items) s.items refl (each_true il resets (some_items s.items) k s.items sc sc' x))
    go false x = served_kept sc.active sc'.active k s.pause_state s.items x h

serves_reopen : (z : Bool) (q : Queue) → Well q → AtEase q → AtEase (reopen z q).next
unfolding reopen
serves_reopen z q w a =
    let x : Scheduler = reschedule_each q.interleaving resets q.streams q.scheduler in
    serves_map (reopened z) (λ s. (reopened_alike z s).alike_id) q.streams x (λ k s e. served_reopened q.interleaving z k s q.scheduler x (each_does q.interleaving resets q.streams q.scheduler k s w.rising w.kept e) (a k s e))

serves_reset : (q : Queue) → Well (Calls.reset q).next → AtEase q → AtEase (Calls.reset q).next
unfolding Calls.reset
serves_reset q w a =
    serves_checked (reset_checks q) q _ a (λ p.
    let v = subst (λ (x : Step). Well x.next) (checked_past (reset_checks q) q _ p) w in
    each_items q.interleaving (map (reset_stream q.options.strict_restart) q.streams) q.scheduler v.rising v.kept)

-- ---- settings

serves_set_threshold : (places j t : ℕ) (q : Queue) → AtEase q → AtEase (Calls.set_threshold places j t q).next
unfolding Calls.set_threshold
serves_set_threshold places j t q a =
    let s : Stream = stream_at q j in
    serves_checked (threshold_checks places j q) q (reply done (raised_event s t) (know q (with_threshold t s))) a (λ p. serves_put (with_threshold t s) q.streams q.scheduler q.scheduler (stay_same s.id q.scheduler) (serves_at q j a) a)

serves_set_priority : (j n : ℕ) (q : Queue) → AtEase q → AtEase (Calls.set_priority j n q).next
unfolding Calls.set_priority
serves_set_priority j n q a =
    let s : Stream = stream_at q j in
    serves_checked (priority_checks j q) q (reply done [] (know q (with_priority n s))) a (λ p. serves_put (with_priority n s) q.streams q.scheduler q.scheduler (stay_same s.id q.scheduler) (serves_at q j a) a)

serves_set_interleaving : (b : Bool) (q : Queue) → Well q → AtEase q → AtEase (Calls.set_interleaving b q).next
unfolding Calls.set_interleaving switched
serves_set_interleaving b q w a = go (same_bool b q.interleaving)
  where
    go : (x : Bool) → AtEase (if x then q else switched b q)
    go true = a
    go false = λ k s e.
        let x : Scheduler = reschedule_each b (λ (t : Stream). true) q.streams q.scheduler in
        served_any x.active k s.pause_state s.items (each_does b (λ (t : Stream). true) q.streams q.scheduler k s w.rising w.kept e)

-- ---- restoring

-- What restoring remembers changes no entry.
recalled_active : (il : Bool) (ss : List Stream) (sc : Scheduler) → (remember_half_sent il ss sc).active ≡ sc.active
unfolding remember_half_sent
recalled_active true ss sc = refl
recalled_active false ss sc = refl

serves_read : (now : ℕ) (q : Queue) (x : Option Handover) → Well (restore_read now q x).next → AtEase q → AtEase (restore_read now q x).next
unfolding restore_read restored
serves_read now q none w a = a
serves_read now q (some h) w a =
    serves_checked (record_checks now q h) q (reply done [] (restored now h q)) a (λ p.
    let v = subst (λ (x : Step). Well x.next) (checked_past (record_checks now q h) q (reply done [] (restored now h q)) p) w in
    let ss : List Stream = (restored now h q).streams in
    let e = recalled_active q.interleaving ss (reschedule_each q.interleaving has_items ss q.scheduler) in
    λ k s f. subst (λ (x : List Active). Served x k s.pause_state s.items) (sym e) (each_items q.interleaving ss q.scheduler v.rising v.kept k s f))

serves_restore : (store now : ℕ) (image : List ℕ) (q : Queue) → Well (Restore.restore store now image q).next → AtEase q → AtEase (Restore.restore store now image q).next
unfolding Restore.restore
serves_restore store now image q w a = serves_checked (restore_checks store now q) q (restore_read now q (read_image image)) a (λ p.
    serves_read now q (read_image image) (subst (λ (x : Step). Well x.next) (checked_past (restore_checks store now q) q (restore_read now q (read_image image)) p) w) a)

-- ---- every call

serves_step : (c : Call) (q : Queue) → Typed c → Well q → Well (step c q).next → AtEase q → AtEase (step c q).next
unfolding step
serves_step (add store now m) q t w v a = serves_add store now m q a
serves_step (produce store places buffer now size) q t w v a = serves_produce store places buffer now size q w a
serves_step (fill store places buffer now p) q t w v a =
    (fill_keeps (λ q. Well q × AtEase q) (λ store places buffer now size q k. ((fine_produce store places buffer now size q k.0).next_well, serves_produce store places buffer now size q k.0 k.1)) store places buffer now p q (w, a)).1
serves_step (discard places s k) q t w v a = serves_discard places s k q w a
serves_step (close places s) q t w v a = serves_close places s q (kept_at q s w t.1) a
serves_step ready_ids q t w v a = serves_ready q a
serves_step commit q t w v a = unfold Calls.commit in serves_reopen true q w a
serves_step rollback q t w v a = unfold Calls.rollback in serves_reopen false q w a
serves_step reset q t w v a = serves_reset q v a
serves_step (set_threshold places s n) q t w v a = serves_set_threshold places s n q a
serves_step (set_priority s p) q t w v a = serves_set_priority s p q a
serves_step (set_interleaving b) q t w v a = serves_set_interleaving b q w a
serves_step (restore store now image) q t w v a = serves_restore store now image q v a
serves_step (ask_priority s) q t w v a = a
serves_step (ask_amount s) q t w v a = a
serves_step (ask_threshold s) q t w v a = a
serves_step ask_total q t w v a = a
serves_step ask_empty q t w v a = a
serves_step ask_has_data q t w v a = a
serves_step ask_streams_ready q t w v a = a
serves_step ask_ready_count q t w v a = a
serves_step ask_readiness q t w v a = a
serves_step (ask_room r) q t w v a = a

new_serves : (o : Options) → AtEase (new_queue o)
unfolding new_queue
new_serves o k s e = absurd (not_in_nil stream_key k s e)

-- So in every reachable queue an open or a pending stream with messages waits.
pub serves_reachable : {o : Options} {q : Queue} → Reachable o q → Serves q.streams q.scheduler
serves_reachable {o} (created c) = new_serves o
serves_reachable (called {q = p} r c t) = serves_step c p t (reachable_well r) (fine_step c p t (reachable_well r)).next_well (serves_reachable r)

-- ---- what a host sees of it

-- A stream that waits has an amount above 0.
pub waits_above : (q : Queue) (k : ℕ) → Well q → is_waiting k q ≡ true → 0 < amount_of q k
unfolding is_waiting amount_of
waits_above q k w h = elim (look_up active_key k q.scheduler.active) [
  | missing e ↦ (let f : is_some (find_active k q.scheduler.active) ≡ false = ap is_some e in let z : ◌≡◌ {A = ℕ} 0 1 = cc in absurd (omega arith))
  | found a e ↦ (let l = every_find active_key (Listed q.interleaving q.streams) k a q.scheduler.active w.waits.sched.every e in
      let i : a.stream_id ≡ k = find_key active_key k q.scheduler.active a e in
      let f = head_for q.interleaving q.streams a l in
      let s : Stream = f.for_stream in
      let g : find_stream k q.streams ≡ some s = subst (λ (x : ℕ). find_stream x q.streams ≡ some s) i f.for_head.found in
      let c = every_find stream_key Kept k s q.streams w.kept g in
      let n = c.counted in
      let u : unsent_bytes s.items ≡ unsent_bytes (f.for_item ∷ f.for_rest) = ap unsent_bytes f.for_head.items in
      let m : (stream_at q k).amount ≡ s.amount = ap (λ (x : Stream). x.amount) (at_found q.options q.streams k s g) in
      let p = l.positive in let z = f.for_size in omega arith)
]

-- A stream with an amount above 0 that is served waits.
entered_waits : (q : Queue) (k : ℕ) (is : List Item) → Entered q.scheduler.active k is → 0 < unsent_bytes is → is_waiting k q ≡ true
unfolding is_waiting
entered_waits q k [] h l = absurd (omega arith)
entered_waits q k (i ∷ is) h l = ap is_some h.1

above_waits : {o : Options} (q : Queue) (k : ℕ) → Reachable o q → Entered q.scheduler.active k (stream_at q k).items → 0 < amount_of q k → is_waiting k q ≡ true
unfolding amount_of
above_waits q k r h l =
    let w = reachable_well r in
    elim (look_up stream_key k q.streams) [
      | missing e ↦ (let z : (stream_at q k).amount ≡ 0 = ap (λ (x : Stream). x.amount) (at_new q.options q.streams k e) in absurd (omega arith))
      | found s e ↦ (let a = at_found q.options q.streams k s e in
          let c = (every_find stream_key Kept k s q.streams w.kept e).counted in
          let m : (stream_at q k).amount ≡ s.amount = ap (λ (x : Stream). x.amount) a in
          entered_waits q k s.items (subst (λ (x : Stream). Entered q.scheduler.active k x.items) a h) (omega arith))
    ]

-- So it waits exactly then.
exactly_then : (b : Bool) (n : ℕ) → (b ≡ true → 0 < n) → (0 < n → b ≡ true) → b ≡ ltb 0 n
exactly_then true n f g = let l = f refl in sym (ltb_true l)
exactly_then false zero f g = refl
exactly_then false (suc n) f g = let l : 0 < suc n = omega arith in g l ∙ sym (ltb_true l)

pub waiting_seen : WaitingSeen
unfolding WaitingSeen
waiting_seen o q k r = go (stream_at q k).pause_state (subst (λ (x : ℕ). Served q.scheduler.active x (stream_at q k).pause_state (stream_at q k).items) (at_id q.options q.streams k) (serves_at q k (serves_reachable r)))
  where
    only : is_waiting k q ≡ true → 0 < amount_of q k
    only = waits_above q k (reachable_well r)

    go : (p : PauseState) → Served q.scheduler.active k p (stream_at q k).items → WaitsBy p (amount_of q k) (is_waiting k q)
    go not_paused h = exactly_then (is_waiting k q) (amount_of q k) only (above_waits q k r h)
    go pending h = exactly_then (is_waiting k q) (amount_of q k) only (above_waits q k r h)
    go paused h = only
    go resetting h = only
