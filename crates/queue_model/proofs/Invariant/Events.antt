-- The 2,305 places of the event list suffice for every call on a well queue, and 256 places for the ready ids. Assumes nothing.
use mathlib.Core.Path.{◌≡◌, refl, sym, ap, subst}
use mathlib.Core.Bool.{Bool, true, false, ◌&&◌}
use mathlib.Core.List.{List, [], ◌∷◌, ◌++◌}
use mathlib.Core.Option.{Option, none, some, get_or}
use Prim.Native.Nat.{ℕ, zero, suc, ◌+◌, ◌-◌, ◌*◌, ◌≤◌, ◌<◌, min}
use native.Mathlib.Omega.{arith}
use lib.Dec.{ltb, leb, eqb, ltb→lt, leb→le}
use lib.ListN.{length, length-append}
use Rattle.std.specs.Prelude.{if◌then◌else◌}
use Rattle.queue_model.specs.Table.{sum_by}
use Rattle.queue_model.specs.Types.{Item, PauseState, not_paused, pending, paused, resetting, Counters, Stream, Active, Scheduler, Options, Queue, Event, Fragment, Packet, done, fragment, Step, remaining, expired, with_state, refuse, reply, Message, with_threshold, with_priority}
use Rattle.queue_model.specs.Scheduler.{peek, remove_stream, accept, set_bytes_remaining}
use Rattle.queue_model.specs.Streams.{max_streams, find_stream, put_stream, stream_at, waiting, stream_key, reschedule, weight_of, know}
use Rattle.queue_model.specs.Refusals.{Check, first_refusal, refused_or, checked, event_places, short_of, short_of_head}
use Rattle.queue_model.specs.Amounts.{low_event, total_falls, stream_falls, total_low, stream_low, lifecycle_events, sent_events, drop_head_events}
use Rattle.queue_model.specs.Add.{add_checks, added}
use Rattle.queue_model.specs.Produce.{Head, head_of, drop_head, drop_in, Look, nothing, broken, dropped, chosen, look_expired, look_at, look_for, look, numbered, make_fragment, end_pending, next_size, moved_on, handed_out_last, handed_out_part, handed_out, hand_out, after_look, pass_over, produce_checks}
use Rattle.queue_model.specs.Fill.{Filling, no_calls, common_header_length, filling, filled_with, fill_checks}
use Rattle.queue_model.specs.Discard.{discarded, discard_at, discard_checks}
use Rattle.queue_model.specs.Close.{untouched, dropped_bytes, sweep_item, sweep_events, closed, close_in, close_checks}
use Rattle.queue_model.specs.Reset.{is_paused, paused_ids, reset_checks, reopen}
use Rattle.queue_model.specs.Settings.{raised_event, threshold_checks, priority_checks}
use Rattle.queue_model.specs.Image.{Handover}
use Rattle.queue_model.specs.Reader.{read_image}
use Rattle.queue_model.specs.Restore.{restored, restore_read, restore_checks, record_checks}
use Rattle.queue_model.specs.Run.{Call, add, produce, fill, discard, close, ready_ids, commit, rollback, reset, set_threshold, set_priority, set_interleaving, restore, ask_priority, ask_amount, ask_threshold, ask_total, ask_empty, ask_has_data, ask_streams_ready, ask_ready_count, ask_readiness, ask_room, step}
use Rattle.queue_model.proofs.Tests.{holds, ltb_true, ltb_false}
use Rattle.queue_model.proofs.Table.{found, missing, look_up, find_key, sum_put_old, sum_find, sum_le, length_sum}
use Rattle.queue_model.proofs.Checks.{not_less}
use Rattle.queue_model.proofs.Streams.{at_found, at_new}
use Rattle.queue_model.proofs.Invariant.Well.{Kept, Well, shrunk}
use Rattle.queue_model.proofs.Invariant.Sends.{FineLook, headless, headed, heads, head_of_at, fine_look, fine_produce}
use Rattle.queue_model.proofs.Fill.Calls.{fill_induct}
use Rattle.queue_model.proofs.Calm.Calm.{HeadAt}
use Rattle.queue_model.specs.Calls
use Rattle.queue_model.specs.Restore

-- ---- an amount that falls

-- 1 for an amount above its threshold, 0 for any other.
pub above : ℕ → ℕ → ℕ
above t a = if ltb t a then 1 else 0

-- It is at most 1.
above_le : (t a : ℕ) → above t a ≤ 1
unfolding above
above_le t a = go (ltb t a)
  where
    go : (b : Bool) → (if b then 1 else 0) ≤ 1
    go true = omega arith
    go false = omega arith

-- An amount above its threshold counts 1.
above_yes : (t a : ℕ) → t < a → above t a ≡ 1
unfolding above
above_yes t a h = ap (λ (b : Bool). if b then 1 else 0) (ltb_true h)

-- An amount at or below its threshold counts 0.
above_no : (t a : ℕ) → a ≤ t → above t a ≡ 0
unfolding above
above_no t a h = ap (λ (b : Bool). if b then 1 else 0) (ltb_false h)

-- A fall fires only when it takes an amount from above its threshold to at or below it.
low_spends : (kind n t old new : ℕ) → new ≤ old → length (low_event kind n t old new) + above t new ≤ above t old
unfolding low_event
low_spends kind n t old new h = go (ltb t old) refl (leb new t) refl
  where
    e : Event
    e = record { kind = kind; number = n; amount = new }

    go : (x : Bool) → ltb t old ≡ x → (y : Bool) → leb new t ≡ y → length (if x && y then e ∷ [] else []) + above t new ≤ above t old
    go true f true g = let a = above_yes t old (ltb→lt t old (holds (ltb t old) f)) in let b = above_no t new (leb→le new t (holds (leb new t) g)) in omega arith
    go true f false g = let a = above_yes t old (ltb→lt t old (holds (ltb t old) f)) in let b = above_le t new in omega arith
    go false f y g = let l = not_less t old f in let a = above_no t old l in let b = above_no t new (omega arith) in omega arith

-- The total's fall pays for its event.
total_spends : (o : Options) (t n : ℕ) → length (total_falls o t n) + above o.total_threshold (t - n) ≤ above o.total_threshold t
unfolding total_falls
total_spends o t n = low_spends 2 0 o.total_threshold t (t - n) (omega arith)

-- A stream's fall pays for its event.
stream_spends : (s : Stream) (a n : ℕ) → length (stream_falls s a n) + above s.threshold (a - n) ≤ above s.threshold a
unfolding stream_falls
stream_spends s a n = low_spends 1 s.id s.threshold a (a - n) (omega arith)

-- A dropped message has at most two events of its own.
lifecycle_few : (n : ℕ) → length (lifecycle_events n) ≤ 2
unfolding lifecycle_events
lifecycle_few zero = omega arith
lifecycle_few (suc n) = omega arith

-- How many of a total and a stream's amount are above their thresholds.
abbrev levels : Options → Stream → ℕ → ℕ → ℕ
levels o s t a = above o.total_threshold t + above s.threshold a

-- Sending n bytes fires at most as many events as levels end.
sent_spends : (q : Queue) (s : Stream) (n : ℕ) → length (sent_events q s n) + levels q.options s (q.total - n) (s.amount - n) ≤ levels q.options s q.total s.amount
unfolding sent_events total_low stream_low
sent_spends q s n =
    let x = total_falls q.options q.total n in let y = stream_falls s s.amount n in
    let a = total_spends q.options q.total n in let b = stream_spends s s.amount n in let c = length-append x y in omega arith

-- The length of three lists of events together.
length_three : (x y z : List Event) → length (x ++ y ++ z) ≡ length x + length y + length z
length_three x y z = let a = length-append (x ++ y) z in let b = length-append x y in omega arith

-- Dropping a head fires at most two events more than levels end.
drop_spends : (q : Queue) (s : Stream) (i : Item) → length (drop_head_events q s i) + levels q.options s (q.total - remaining i) (s.amount - remaining i) ≤ 2 + levels q.options s q.total s.amount
unfolding drop_head_events total_low stream_low
drop_spends q s i =
    let x = total_falls q.options q.total (remaining i) in let y = stream_falls s s.amount (remaining i) in let z = lifecycle_events i.lifecycle_id in
    let a = total_spends q.options q.total (remaining i) in let b = stream_spends s s.amount (remaining i) in let c = length_three x y z in let d = lifecycle_few i.lifecycle_id in omega arith

-- ---- the potential

-- The streams that are above their thresholds.
abbrev pub streams_above : List Stream → ℕ
streams_above ss = sum_by (λ (s : Stream). above s.threshold s.amount) ss

-- The events that a queue can still fire while its amounts fall: two a message, one a stream above its threshold, one for the total.
abbrev pub potential : Queue → ℕ
potential q = 2 * waiting q.streams + streams_above q.streams + above q.options.total_threshold q.total

-- At most 2 * 1,024 + 256 + 1.
pub potential_fits : (q : Queue) → Well q → potential q ≤ event_places
potential_fits q w =
    let a = w.messages_few in let b = w.streams_few in let c = length_sum q.streams in
    let d = sum_le Kept (λ s. above s.threshold s.amount) (λ s. 1) q.streams (λ s k. above_le s.threshold s.amount) w.kept in
    let e = above_le q.options.total_threshold q.total in omega arith

-- A step whose events and next potential come to at most n.
abbrev Spends : ℕ → Step → Type 0
Spends n s = length s.outcome.events + potential s.next ≤ n

-- ---- a head that leaves, whole or in part

module _ (q : Queue) (k : ℕ) (s : Stream) (i : Item) (is : List Item) (w : Well q) (h : HeadAt q.streams k s i is) where
  -- The stream is found by its own id.
  own_found : find_stream s.id q.streams ≡ some s
  own_found = subst (λ (j : ℕ). find_stream j q.streams ≡ some s) (sym (find_key stream_key k q.streams s h.found)) h.found

  -- The queue with n bytes fewer in the stream.
  abbrev fallen : PauseState → Counters → ℕ → List Item → Scheduler → Queue
  fallen p c n l sc = with_state q (q.total - n) (put_stream (shrunk s p c n l) q.streams) sc

  -- The potential changes by the stream's messages, its level and the total's.
  fallen_potential : (p : PauseState) (c : Counters) (n : ℕ) (l : List Item) (sc : Scheduler)
      → potential (fallen p c n l sc) + (2 * length s.items + levels q.options s q.total s.amount) ≡ potential q + (2 * length l + levels q.options s (q.total - n) (s.amount - n))
  fallen_potential p c n l sc =
      let a = sum_put_old stream_key (λ x. length x.items) (shrunk s p c n l) s q.streams w.rising own_found in
      let b = sum_put_old stream_key (λ x. above x.threshold x.amount) (shrunk s p c n l) s q.streams w.rising own_found in omega arith

  -- A head dropped pays for its events.
  gone_spends : (p : PauseState) (c : Counters) (sc : Scheduler) → length (drop_head_events q s i) + potential (fallen p c (remaining i) is sc) ≤ potential q
  gone_spends p c sc =
      let a = fallen_potential p c (remaining i) is sc in let b = drop_spends q s i in
      let l : length s.items ≡ suc (length is) = ap length h.items in omega arith

  -- Bytes sent pay for their events, whether the message stays or goes.
  part_spends : (p : PauseState) (c : Counters) (n : ℕ) (l : List Item) (sc : Scheduler) → length l ≤ suc (length is) → length (sent_events q s n) + potential (fallen p c n l sc) ≤ potential q
  part_spends p c n l sc z =
      let a = fallen_potential p c n l sc in let b = sent_spends q s n in
      let e : length s.items ≡ suc (length is) = ap length h.items in omega arith

  -- A head dropped from a stream that stays as it was pays for its events.
  head_spends : length (drop_head_events q s i) + potential (drop_head q s i is) ≤ potential q
  unfolding drop_head
  head_spends = gone_spends s.pause_state s.counters (reschedule q.interleaving (shrunk s s.pause_state s.counters (remaining i) is) q.scheduler)

  -- A head dropped as it expires, or discarded, pays for its events, in whatever state its stream is.
  drop_in_spends : (p : PauseState) → length (drop_head_events q s i) + potential (drop_in p q s i is) ≤ potential q
  unfolding drop_in
  drop_in_spends not_paused = head_spends
  drop_in_spends pending = gone_spends paused s.counters (remove_stream s.id q.scheduler)
  drop_in_spends paused = head_spends
  drop_in_spends resetting = head_spends

  -- A fragment handed out pays for its events.
  handed_spends : (a : Active) (n : ℕ) → length (sent_events q s n) + potential (handed_out q a s i is n) ≤ potential q
  unfolding handed_out handed_out_last handed_out_part
  handed_spends a n = go (eqb n (remaining i))
    where
      p : PauseState
      p = end_pending s.pause_state

      c : Counters
      c = (numbered s.counters i).counters

      sc : Scheduler
      sc = accept a n q.scheduler

      go : (b : Bool) → length (sent_events q s n) + potential (if b then handed_out_last q a s i is n else handed_out_part q a s i is n) ≤ potential q
      go true = part_spends p c n is (set_bytes_remaining s.id (next_size p is) (weight_of q.interleaving s) sc) (omega arith)
      go false = part_spends s.pause_state c n (moved_on (numbered s.counters i).item n ∷ is) sc (omega arith)

-- ---- next fragment

-- A look that drops a head pays for its events.
abbrev pub LookSpends : Queue → Look → Type 0
LookSpends q nothing = Unit {0}
LookSpends q broken = Unit {0}
LookSpends q (dropped r ds) = length ds + potential r ≤ potential q
LookSpends q (chosen a s i is) = Unit {0}

-- A look at an expired head, which drops it or finds the state broken.
expired_spends : (q : Queue) (k : ℕ) (s : Stream) (i : Item) (is : List Item) → Well q → HeadAt q.streams k s i is → LookSpends q (look_expired q s i is)
unfolding look_expired
expired_spends q k s i is w h = go (short_of q s (remaining i))
  where
    go : (b : Bool) → LookSpends q (if b then broken else dropped (drop_in s.pause_state q s i is) (drop_head_events q s i))
    go true = tt
    go false = drop_in_spends q k s i is w h s.pause_state

-- A look at the head of an entry's stream.
look_at_spends : (now : ℕ) (q : Queue) (a : Active) → Well q → LookSpends q (look_at now q a (head_of (find_stream a.stream_id q.streams)))
unfolding look_at
look_at_spends now q a w = elim (heads q.streams a.stream_id) [
  | headless e n ↦ subst (λ (x : Head). LookSpends q (look_at now q a x)) (sym e) tt
  | headed s i is h ↦ subst (λ (x : Head). LookSpends q (look_at now q a x)) (sym (head_of_at q.streams a.stream_id s i is h)) (go s i is h (expired now i.expires_at))
]
  where
    go : (s : Stream) (i : Item) (is : List Item) → HeadAt q.streams a.stream_id s i is → (b : Bool) → LookSpends q (if b then look_expired q s i is else chosen a s i is)
    go s i is h true = expired_spends q a.stream_id s i is w h
    go s i is h false = tt

-- Every look at the scheduler's choice.
pub look_spends : (now : ℕ) (q : Queue) → Well q → LookSpends q (look now q)
unfolding look look_for
look_spends now q w = go (peek q.scheduler)
  where
    go : (x : Option Active) → LookSpends q (look_for now q x)
    go none = tt
    go (some a) = look_at_spends now q a w

-- A step, if there is one, whose events and next potential come to at most n.
abbrev MaybeSpends : ℕ → Option Step → Type 0
MaybeSpends n none = Unit {0}
MaybeSpends n (some s) = Spends n s

-- What spends at most m spends at most any n from m on.
maybe_more : (m n : ℕ) (x : Option Step) → m ≤ n → MaybeSpends m x → MaybeSpends n x
maybe_more m n none l f = tt
maybe_more m n (some s) l f = omega arith

-- Handing out, after the events es.
hand_out_spends : (size : ℕ) (q : Queue) (es : List Event) (a : Active) (s : Stream) (i : Item) (is : List Item) → Well q → HeadAt q.streams a.stream_id s i is
    → MaybeSpends (length es + potential q) (hand_out size q es a s i is)
unfolding hand_out
hand_out_spends size q es a s i is w h = go (short_of_head q s i n)
  where
    n : ℕ
    n = min a.bytes_remaining size

    sent : Step
    sent = reply (fragment (make_fragment s (numbered s.counters i).item n)) (es ++ sent_events q s n) (handed_out q a s i is n)

    go : (b : Bool) → MaybeSpends (length es + potential q) (if b then none else some sent)
    go true = tt
    go false = let e = handed_spends q a.stream_id s i is w h a n in let f = length-append es (sent_events q s n) in omega arith

-- What follows a look spends no more than was there, if the choice begun again does not.
after_spends : (again : Queue → List Event → Option Step) (size : ℕ) (q : Queue) (es : List Event) (l : Look) → Well q → FineLook q l → LookSpends q l
    → ((r : Queue) (ds : List Event) → Well r → MaybeSpends (length ds + potential r) (again r ds)) → MaybeSpends (length es + potential q) (after_look again size q es l)
unfolding after_look
after_spends again size q es nothing w f g h = omega arith
after_spends again size q es broken w f g h = tt
after_spends again size q es (dropped r ds) w f g h =
    let e = length-append es ds in
    maybe_more (length (es ++ ds) + potential r) (length es + potential q) (again r (es ++ ds)) (omega arith) (h r (es ++ ds) f.0)
after_spends again size q es (chosen a s i is) w f g h = hand_out_spends size q es a s i is w f.choice_head

-- Passing over expired heads: the events at the end and what can still be fired then are no more than those so far and what could be fired before.
pass_spends : (turns now size : ℕ) (q : Queue) (es : List Event) → Well q → MaybeSpends (length es + potential q) (pass_over turns now size q es)
unfolding pass_over
pass_spends zero now size q es w = tt
pass_spends (suc turns) now size q es w = after_spends (λ r ds. pass_over turns now size r ds) size q es (look now q) w (fine_look now q w) (look_spends now q w) (λ r ds v. pass_spends turns now size r ds v)

-- ---- few events

-- A step with no more events than there are places.
abbrev Few : Step → Type 0
Few s = length s.outcome.events ≤ event_places

-- A call that checks first fires few events if it does past its checks: a refusal fires none.
few_checked : (cs : List Check) (q : Queue) (s : Step) → Few s → Few (checked cs q s)
unfolding checked refused_or
few_checked cs q s f = go (first_refusal cs)
  where
    go : (x : Option ℕ) → Few (refused_or x q s)
    go none = f
    go (some n) = omega arith

-- What spends no more than the potential fires few events.
few_spent : (q : Queue) (s : Step) → Well q → Spends (potential q) s → Few s
few_spent q s w f = let a = potential_fits q w in omega arith

-- A call that checks first spends no more than the potential if it does not past its checks.
spends_checked : (cs : List Check) (q : Queue) (s : Step) → Spends (potential q) s → Spends (potential q) (checked cs q s)
unfolding checked refused_or
spends_checked cs q s f = go (first_refusal cs)
  where
    go : (x : Option ℕ) → Spends (potential q) (refused_or x q s)
    go none = f
    go (some n) = omega arith

spends_default : (q : Queue) (x : Option Step) → MaybeSpends (potential q) x → Spends (potential q) (get_or x (refuse q 16))
spends_default q none f = omega arith
spends_default q (some s) f = f

-- The next fragment's events and what can still be fired after it are no more than what could be fired before.
pub produce_spends : (store places buffer now size : ℕ) (q : Queue) → Well q → Spends (potential q) (Calls.produce store places buffer now size q)
unfolding Calls.produce
produce_spends store places buffer now size q w =
    let x : Option Step = pass_over (suc (waiting q.streams)) now size q [] in
    spends_checked (produce_checks store places buffer now size q) q (get_or x (refuse q 16))
    (spends_default q x (maybe_more (0 + potential q) (potential q) x (omega arith) (pass_spends (suc (waiting q.streams)) now size q [] w)))

-- The next fragment fires few events.
few_produce : (store places buffer now size : ℕ) (q : Queue) → Well q → Few (Calls.produce store places buffer now size q)
few_produce store places buffer now size q w = few_spent q (Calls.produce store places buffer now size q) w (produce_spends store places buffer now size q w)

-- ---- filling a packet

-- So are those of all calls of a filling together.
abbrev FillSpends : Queue → Filling → Type 0
FillSpends q r = length r.events + potential r.next ≤ potential q

filling_spends : (store places now limit : ℕ) (q : Queue) → Well q → FillSpends q (filling store places now limit q)
unfolding no_calls filling
filling_spends store places now limit q w =
    fill_induct q.interleaving store places now limit Well (λ n q w. (fine_produce store places (suc n) now (suc n) q w).next_well) (λ used q r. FillSpends q r)
    (λ used q w e. omega arith)
    (λ n used q w e f. produce_spends store places (suc n) now (suc n) q w)
    (λ n used q f r w e g h.
    let s : Step = Calls.produce store places (suc n) now (suc n) q in
    let a = produce_spends store places (suc n) now (suc n) q w in let b = length-append s.outcome.events r.events in omega arith)
    limit common_header_length q w (omega arith)

-- Document 02, 5/13: its event list "gets all their events up to 2,305, which suffice".
pub filling_events : (store places now limit : ℕ) (q : Queue) → Well q → length (filling store places now limit q).events ≤ event_places
filling_events store places now limit q w = let a = filling_spends store places now limit q w in let b = potential_fits q w in omega arith

filled_few : (p : Packet) (q : Queue) (r : Filling) → length r.events ≤ event_places → Few (filled_with p q r r.fragments r.refusal)
unfolding filled_with
filled_few p q r h = go r.fragments r.refusal
  where
    go : (fs : List Fragment) (x : Option ℕ) → Few (filled_with p q r fs x)
    go [] (some n) = omega arith
    go [] none = h
    go (f ∷ fs) x = h

-- Filling a packet fires few events.
few_fill : (store places buffer now : ℕ) (p : Packet) (q : Queue) → Well q → Few (Calls.fill store places buffer now p q)
unfolding Calls.fill
few_fill store places buffer now p q w =
    let r : Filling = filling store places now p.limit q in
    few_checked (fill_checks store places buffer now p.limit q) q (filled_with p q r r.fragments r.refusal) (filled_few p q r (filling_events store places now p.limit q w))

-- ---- discard

-- A head that is meant, dropped or refused, fires few events.
discarded_few : (q : Queue) (k : ℕ) (s : Stream) (i : Item) (is : List Item) → Well q → HeadAt q.streams k s i is → Few (discarded q s i is)
unfolding discarded
discarded_few q k s i is w h = go (short_of q s (remaining i))
  where
    go : (b : Bool) → Few (if b then refuse q 16 else reply done (drop_head_events q s i) (drop_in s.pause_state q s i is))
    go true = omega arith
    go false = let a = drop_in_spends q k s i is w h s.pause_state in let b = potential_fits q w in omega arith

-- So does any head of an id, meant or not.
discard_at_few : (m k : ℕ) (q : Queue) → Well q → Few (discard_at m q (head_of (find_stream k q.streams)))
unfolding discard_at
discard_at_few m k q w = elim (heads q.streams k) [
  | headless e n ↦ subst (λ (x : Head). Few (discard_at m q x)) (sym e) none_few
  | headed s i is h ↦ subst (λ (x : Head). Few (discard_at m q x)) (sym (head_of_at q.streams k s i is h)) (either s i is h (eqb i.message_id m))
]
  where
    none_few : Few (reply done [] q)
    none_few = omega arith

    either : (s : Stream) (i : Item) (is : List Item) → HeadAt q.streams k s i is → (b : Bool) → Few (if b then discarded q s i is else reply done [] q)
    either s i is h true = discarded_few q k s i is w h
    either s i is h false = none_few

-- So discard fires few events.
few_discard : (places s k : ℕ) (q : Queue) → Well q → Few (Calls.discard places s k q)
unfolding Calls.discard
few_discard places s k q w = few_checked (discard_checks places) q (discard_at k q (head_of (find_stream s q.streams))) (discard_at_few k s q w)

-- ---- close

-- An amount that falls does not rise above its threshold.
above_falls : (t a n : ℕ) → above t (a - n) ≤ above t a
above_falls t a n = let e = low_spends 0 0 t a (a - n) (omega arith) in omega arith

-- One message, swept or kept, fires at most two events more than levels end.
item_spends : (o : Options) (s : Stream) (i : Item) (t a : ℕ) → length (sweep_item o s i t a) + levels o s (t - dropped_bytes i) (a - dropped_bytes i) ≤ 2 + levels o s t a
unfolding sweep_item dropped_bytes
item_spends o s i t a = go (untouched i)
  where
    go : (b : Bool)
        → length (if b then stream_falls s a (remaining i) ++ total_falls o t (remaining i) ++ lifecycle_events i.lifecycle_id else []) + levels o s (t - (if b then remaining i else 0)) (a - (if b then remaining i else 0))
        ≤ 2 + levels o s t a
    go true =
        let x = total_spends o t (remaining i) in let y = stream_spends s a (remaining i) in
        let z = length_three (stream_falls s a (remaining i)) (total_falls o t (remaining i)) (lifecycle_events i.lifecycle_id) in let d = lifecycle_few i.lifecycle_id in omega arith
    go false = let x = above_falls o.total_threshold t 0 in let y = above_falls s.threshold a 0 in omega arith

-- A sweep fires at most two events a message, and one each for the stream and the total.
sweep_few : (o : Options) (s : Stream) (is : List Item) (t a : ℕ) → length (sweep_events o s is t a) ≤ 2 * length is + levels o s t a
unfolding sweep_events
sweep_few o s [] t a = omega arith
sweep_few o s (i ∷ is) t a =
    let d = dropped_bytes i in let x = item_spends o s i t a in let ih = sweep_few o s is (t - d) (a - d) in
    let e = length-append (sweep_item o s i t a) (sweep_events o s is (t - d) (a - d)) in omega arith

-- The messages of one stream wait among all.
items_le : (q : Queue) (k : ℕ) → length (stream_at q k).items ≤ waiting q.streams
items_le q k = elim (look_up stream_key k q.streams) [
  | found s f ↦ (let a = sum_find stream_key (λ x. length x.items) k s q.streams f in let b : length (stream_at q k).items ≡ length s.items = ap (λ (x : Stream). length x.items) (at_found q.options q.streams k s f) in omega arith)
  | missing f ↦ (let b : length (stream_at q k).items ≡ 0 = ap (λ (x : Stream). length x.items) (at_new q.options q.streams k f) in omega arith)
]

-- A stream in any state: an open one is swept, for any other nothing is fired.
close_in_few : (p : PauseState) (q : Queue) (k : ℕ) → Well q → Few (close_in p q (stream_at q k))
unfolding close_in closed
close_in_few not_paused q k w =
    let s = stream_at q k in
    let a = sweep_few q.options s s.items q.total s.amount in let b = items_le q k in let c = w.messages_few in
    let d = above_le q.options.total_threshold q.total in let e = above_le s.threshold s.amount in omega arith
close_in_few pending q k w = omega arith
close_in_few paused q k w = omega arith
close_in_few resetting q k w = omega arith

-- So closing fires few events.
few_close : (places k : ℕ) (q : Queue) → Well q → Few (Calls.close places k q)
unfolding Calls.close
few_close places k q w = let s = stream_at q k in few_checked (close_checks places k q) q (close_in s.pause_state q s) (close_in_few s.pause_state q k w)

-- ---- the other calls

-- A raised threshold fires at most once.
raised_few : (s : Stream) (t : ℕ) → length (raised_event s t) ≤ 1
unfolding raised_event
raised_few s t = go (ltb s.threshold s.amount && leb s.amount t)
  where
    e : Event
    e = record { kind = 1; number = s.id; amount = s.amount }

    go : (b : Bool) → length (if b then e ∷ [] else []) ≤ 1
    go true = omega arith
    go false = omega arith

-- So setting a threshold fires few events.
few_set_threshold : (places k t : ℕ) (q : Queue) → Few (Calls.set_threshold places k t q)
unfolding Calls.set_threshold
few_set_threshold places k t q = let s = stream_at q k in let a = raised_few s t in few_checked (threshold_checks places k q) q (reply done (raised_event s t) (know q (with_threshold t s))) (omega arith)

-- Adding, which fires none.
few_add : (store now : ℕ) (m : Message) (q : Queue) → Few (Calls.add store now m q)
unfolding Calls.add
few_add store now m q = few_checked (add_checks store now m q) q (reply done [] (added now m q)) (omega arith)

-- Setting a priority, which fires none.
few_set_priority : (k p : ℕ) (q : Queue) → Few (Calls.set_priority k p q)
unfolding Calls.set_priority
few_set_priority k p q = few_checked (priority_checks k q) q (reply done [] (know q (with_priority p (stream_at q k)))) (omega arith)

-- The whole-queue reset, which fires none.
few_reset : (q : Queue) → Few (Calls.reset q)
unfolding Calls.reset
few_reset q = few_checked (reset_checks q) q _ (omega arith)

-- An image, read or not, which fires none.
read_few : (now : ℕ) (q : Queue) (x : Option Handover) → Few (restore_read now q x)
unfolding restore_read
read_few now q none = omega arith
read_few now q (some h) = few_checked (record_checks now q h) q (reply done [] (restored now h q)) (omega arith)

-- Restoring, which fires none.
few_restore : (store now : ℕ) (image : List ℕ) (q : Queue) → Few (Restore.restore store now image q)
unfolding Restore.restore
few_restore store now image q = few_checked (restore_checks store now q) q (restore_read now q (read_image image)) (read_few now q (read_image image))

-- Commit and rollback, which fire none.
few_reopen : (z : Bool) (q : Queue) → Few (reopen z q)
unfolding reopen
few_reopen z q = omega arith

-- The ready ids, which fire none.
few_ready : (q : Queue) → Few (Calls.ready_ids q)
unfolding Calls.ready_ids
few_ready q = omega arith

-- Setting interleaving, which fires none.
few_set_interleaving : (b : Bool) (q : Queue) → Few (Calls.set_interleaving b q)
unfolding Calls.set_interleaving
few_set_interleaving b q = omega arith

-- The event list's 2,305 places suffice for every call.
pub events_fit : (c : Call) (q : Queue) → Well q → length (step c q).outcome.events ≤ event_places
unfolding step
events_fit (add store now m) q w = few_add store now m q
events_fit (produce store places buffer now size) q w = few_produce store places buffer now size q w
events_fit (fill store places buffer now p) q w = few_fill store places buffer now p q w
events_fit (discard places s k) q w = few_discard places s k q w
events_fit (close places s) q w = few_close places s q w
events_fit ready_ids q w = few_ready q
events_fit commit q w = few_reopen true q
events_fit rollback q w = few_reopen false q
events_fit reset q w = few_reset q
events_fit (set_threshold places s n) q w = few_set_threshold places s n q
events_fit (set_priority s p) q w = few_set_priority s p q
events_fit (set_interleaving b) q w = few_set_interleaving b q
events_fit (restore store now image) q w = few_restore store now image q
events_fit (ask_priority s) q w = omega arith
events_fit (ask_amount s) q w = omega arith
events_fit (ask_threshold s) q w = omega arith
events_fit ask_total q w = omega arith
events_fit ask_empty q w = omega arith
events_fit ask_has_data q w = omega arith
events_fit ask_streams_ready q w = omega arith
events_fit ask_ready_count q w = omega arith
events_fit ask_readiness q w = omega arith
events_fit (ask_room r) q w = omega arith

-- ---- ready ids

-- Only known streams are ready.
paused_few : (ss : List Stream) → length (paused_ids ss) ≤ length ss
unfolding paused_ids
paused_few [] = omega arith
paused_few (s ∷ ss) = go (is_paused s) (paused_few ss)
  where
    go : (b : Bool) → length (paused_ids ss) ≤ length ss → length (if b then s.id ∷ paused_ids ss else paused_ids ss) ≤ suc (length ss)
    go true h = omega arith
    go false h = omega arith

-- So 256 places suffice for the ready ids.
pub ready_fit : (q : Queue) → Well q → length (paused_ids q.streams) ≤ max_streams
ready_fit q w = let a = w.streams_few in let b = paused_few q.streams in omega arith
