-- What holds of every stream by its state and its messages, `Keeps`: if it holds of a new stream and each way in which calls change a stream keeps it,
-- then every call keeps it for all
-- streams of a well queue. Assumes nothing.
use mathlib.Core.Path.{◌≡◌, refl, sym, subst}
use mathlib.Core.Bool.{Bool, true, false}
use mathlib.Core.List.{List, [], ◌∷◌, ◌++◌, map}
use mathlib.Core.Option.{Option, none, some, get_or}
use Prim.Native.Nat.{ℕ, zero, suc, ◌≤◌, ◌<◌, min}
use native.Mathlib.Omega.{arith}
use lib.Dec.{eqb}
use Rattle.std.specs.Prelude.{if◌then◌else◌}
use Rattle.queue_model.specs.Logic.{same_bool, any}
use Rattle.queue_model.specs.Types.{Item, PauseState, not_paused, pending, paused, resetting, Stream, Active, Options, Queue, Event, done, fragment, Step, remaining, expired, model_with_pause, with_threshold, with_priority, refuse, reply, Message}
use Rattle.queue_model.specs.Scheduler.{peek}
use Rattle.queue_model.specs.Streams.{find_stream, stream_at, at, waiting, know, stream_key, with_message, new_queue}
use Rattle.queue_model.specs.Refusals.{Check, first_refusal, refused_or, checked, short_of, short_of_head, max_payload}
use Rattle.queue_model.specs.Amounts.{sent_events, drop_head_events}
use Rattle.queue_model.specs.Add.{added, add_checks, new_item}
use Rattle.queue_model.specs.Produce.{Head, head_of, drop_head, drop_in, Look, nothing, broken, dropped, chosen, look_expired, look_at, look_for, look, numbered, make_fragment, end_pending, moved_on, handed_out_last, handed_out_part, handed_out, hand_out, after_look, pass_over, produce_checks}
use Rattle.queue_model.specs.Discard.{discarded, discard_at, discard_checks}
use Rattle.queue_model.specs.Close.{kept, closed_state, closed, close_in, close_checks}
use Rattle.queue_model.specs.Reset.{is_paused, is_resetting, paused_to_resetting, opened, reopened, reopen, whole_head, reset_stream, reset_checks}
use Rattle.queue_model.specs.Settings.{threshold_checks, priority_checks, raised_event, switched}
use Rattle.queue_model.specs.Image.{StreamRecord, MessageRecord, Handover}
use Rattle.queue_model.specs.Reader.{read_image}
use Rattle.queue_model.specs.Restore.{restored_stream, restored_item, restore_streams, restore_message, restore_messages, restored, mid_too_early, record_checks, restore_read, restore_checks}
use Rattle.queue_model.specs.Run.{Call, add, produce, fill, discard, close, ready_ids, commit, rollback, reset, set_threshold, set_priority, set_interleaving, restore, ask_priority, ask_amount, ask_threshold, ask_total, ask_empty, ask_has_data, ask_streams_ready, ask_ready_count, ask_readiness, ask_room, step}
use Rattle.queue_model.specs.Demands.{Typed, Reachable, created, called}
use Rattle.queue_model.proofs.Table.{Every, every_put, every_map, every_weaken, every_both, every_find}
use Rattle.queue_model.proofs.Checks.{Passed, all_passed, or_left, or_right}
use Rattle.queue_model.proofs.Streams.{every_at}
use Rattle.queue_model.proofs.Invariant.Messages.{WellRest, WellItems}
use Rattle.queue_model.proofs.Invariant.Well.{Kept, Well, inside, kept_at}
use Rattle.queue_model.proofs.Invariant.Sends.{FineLook, Chosen, headless, headed, heads, head_of_at, head_well, fine_look, fine_produce}
use Rattle.queue_model.proofs.Fill.Calls.{fill_keeps}
use Rattle.queue_model.proofs.Invariant.Sixteen.{reachable_well, reachable_options}
use Rattle.queue_model.proofs.Calm.Calm.{HeadAt}
use Rattle.queue_model.specs.Calls
use Rattle.queue_model.specs.Restore

-- ---- what is kept

-- Of a stream, and of all streams of a queue.
abbrev pub Held : (PauseState → List Item → Type 0) → Stream → Type 0
Held Q s = Q s.pause_state s.items

abbrev pub AllHeld : (PauseState → List Item → Type 0) → Queue → Type 0
AllHeld Q q = Every (Held Q) q.streams

-- The ways in which calls on a queue with the options o change a stream's state and messages.
pub record Keeps (o : Options) (Q : PauseState → List Item → Type 0) : Type 0 where
  pub keeps_new : Q not_paused []
  -- A message that waits for its first fragment comes to the end.
  pub keeps_add : (p : PauseState) (is : List Item) (i : Item) → i.mid ≡ none → i.offset ≡ 0 → Q p is → Q p (is ++ (i ∷ []))
  -- The head leaves: its last fragment is handed out, it expires, or it is discarded.
  pub keeps_drop : (p : PauseState) (i : Item) (is : List Item) → WellRest is → Q p (i ∷ is) → Q (end_pending p) is
  -- A fragment that is not the last is handed out.
  pub keeps_part : (p : PauseState) (i j : Item) (is : List Item) → 0 < j.offset → Q p (i ∷ is) → Q p (j ∷ is)
  pub keeps_close : (is : List Item) → WellItems is → Q not_paused is → Q (closed_state (kept is)) (kept is)
  pub keeps_ready : (is : List Item) → Q paused is → Q resetting is
  pub keeps_open : (is : List Item) → Q resetting is → Q not_paused is
  pub keeps_reset : (p : PauseState) (is : List Item) → WellItems is → Q p is → Q not_paused (whole_head o.strict_restart is)
  pub keeps_restore : (now : ℕ) (r : MessageRecord) (is : List Item) → mid_too_early o.strict_restart r ≡ false → Q not_paused is → Q not_paused (is ++ (restored_item now r ∷ []))

module _ (o : Options) (Q : PauseState → List Item → Type 0) (v : Keeps o Q) where
  -- ---- calls that check

  held_checked : (cs : List Check) (q : Queue) (s : Step) → AllHeld Q q → (Passed cs → AllHeld Q s.next) → AllHeld Q (checked cs q s).next
  unfolding checked refused_or
  held_checked cs q s a h = go (first_refusal cs) refl
    where
      go : (x : Option ℕ) → first_refusal cs ≡ x → AllHeld Q (refused_or x q s).next
      go none e = h (all_passed cs e)
      go (some n) e = a

  held_at : (q : Queue) (k : ℕ) → AllHeld Q q → Held Q (stream_at q k)
  held_at q k a = every_at (Held Q) q.options k q.streams a v.keeps_new

  -- ---- add

  held_add : (store now : ℕ) (m : Message) (q : Queue) → AllHeld Q q → AllHeld Q (Calls.add store now m q).next
  unfolding Calls.add added new_item
  held_add store now m q a =
      held_checked (add_checks store now m q) q (reply done [] (added now m q)) a (λ p.
      let s : Stream = stream_at q m.stream_id in let i : Item = new_item now q.next_message_id m in
      every_put stream_key (Held Q) (with_message s i) q.streams (v.keeps_add s.pause_state s.items i refl refl (held_at q m.stream_id a)) a)

  -- ---- a head that leaves, whole or in part

  module _ (q : Queue) (k : ℕ) (s : Stream) (i : Item) (is : List Item) (w : Well q) (h : HeadAt q.streams k s i is) (a : AllHeld Q q) where
    held_head : Q s.pause_state (i ∷ is)
    held_head = subst (Q s.pause_state) h.items (every_find stream_key (Held Q) k s q.streams a h.found)

    held_behind : Q (end_pending s.pause_state) is
    held_behind = v.keeps_drop s.pause_state i is (head_well q k s i is w h).1 held_head

    held_drop_in : (p : PauseState) → s.pause_state ≡ p → AllHeld Q (drop_in p q s i is)
    unfolding drop_in drop_head end_pending
    held_drop_in not_paused e = every_put stream_key (Held Q) _ q.streams (subst (λ (p : PauseState). Q (end_pending p) is → Q p is) (sym e) (λ x. x) held_behind) a
    held_drop_in pending e = every_put stream_key (Held Q) _ q.streams (subst (λ (p : PauseState). Q (end_pending p) is → Q paused is) (sym e) (λ x. x) held_behind) a
    held_drop_in paused e = every_put stream_key (Held Q) _ q.streams (subst (λ (p : PauseState). Q (end_pending p) is → Q p is) (sym e) (λ x. x) held_behind) a
    held_drop_in resetting e = every_put stream_key (Held Q) _ q.streams (subst (λ (p : PauseState). Q (end_pending p) is → Q p is) (sym e) (λ x. x) held_behind) a

    held_handed : (c : Active) (n : ℕ) → 0 < n → AllHeld Q (handed_out q c s i is n)
    unfolding handed_out handed_out_last handed_out_part moved_on
    held_handed c n z = go (eqb n (remaining i))
      where
        go : (b : Bool) → AllHeld Q (if b then handed_out_last q c s i is n else handed_out_part q c s i is n)
        go true = every_put stream_key (Held Q) _ q.streams held_behind a
        go false = every_put stream_key (Held Q) _ q.streams (v.keeps_part s.pause_state i (moved_on (numbered s.counters i).item n) is (omega arith) held_head) a

  -- ---- discard

  held_discard_at : (m k : ℕ) (q : Queue) → Well q → AllHeld Q q → AllHeld Q (discard_at m q (head_of (find_stream k q.streams))).next
  unfolding discard_at discarded
  held_discard_at m k q w a = elim (heads q.streams k) [
    | headless e n ↦ subst (λ (x : Head). AllHeld Q (discard_at m q x).next) (sym e) a
    | headed s i is h ↦ subst (λ (x : Head). AllHeld Q (discard_at m q x).next) (sym (head_of_at q.streams k s i is h)) (go s i is h (eqb i.message_id m) (short_of q s (remaining i)))
  ]
    where
      go : (s : Stream) (i : Item) (is : List Item) → HeadAt q.streams k s i is → (x y : Bool)
          → AllHeld Q (if x then (if y then refuse q 16 else reply done (drop_head_events q s i) (drop_in s.pause_state q s i is)) else reply done [] q).next
      go s i is h true true = a
      go s i is h true false = held_drop_in q k s i is w h a s.pause_state refl
      go s i is h false y = a

  held_discard : (places k m : ℕ) (q : Queue) → Well q → AllHeld Q q → AllHeld Q (Calls.discard places k m q).next
  unfolding Calls.discard
  held_discard places k m q w a = held_checked (discard_checks places) q (discard_at m q (head_of (find_stream k q.streams))) a (λ p. held_discard_at m k q w a)

  -- ---- next fragment

  abbrev LookHeld : Look → Type 0
  LookHeld nothing = Unit {0}
  LookHeld broken = Unit {0}
  LookHeld (dropped r ds) = AllHeld Q r
  LookHeld (chosen c s i is) = Unit {0}

  held_look : (now : ℕ) (q : Queue) → Well q → AllHeld Q q → LookHeld (look now q)
  unfolding look look_for look_at look_expired
  held_look now q w a = go (peek q.scheduler)
    where
      drops : (c : Active) (s : Stream) (i : Item) (is : List Item) → HeadAt q.streams c.stream_id s i is → (x y : Bool)
          → LookHeld (if x then (if y then broken else dropped (drop_in s.pause_state q s i is) (drop_head_events q s i)) else chosen c s i is)
      drops c s i is h true true = tt
      drops c s i is h true false = held_drop_in q c.stream_id s i is w h a s.pause_state refl
      drops c s i is h false y = tt

      at_one : (c : Active) → LookHeld (look_at now q c (head_of (find_stream c.stream_id q.streams)))
      at_one c = elim (heads q.streams c.stream_id) [
        | headless e n ↦ subst (λ (x : Head). LookHeld (look_at now q c x)) (sym e) tt
        | headed s i is h ↦ subst (λ (x : Head). LookHeld (look_at now q c x)) (sym (head_of_at q.streams c.stream_id s i is h)) (drops c s i is h (expired now i.expires_at) (short_of q s (remaining i)))
      ]

      go : (x : Option Active) → LookHeld (look_for now q x)
      go none = tt
      go (some c) = at_one c

  abbrev MaybeHeld : Option Step → Type 0
  MaybeHeld none = Unit {0}
  MaybeHeld (some s) = AllHeld Q s.next

  held_hand_out : (size : ℕ) (q : Queue) (es : List Event) (c : Active) (s : Stream) (i : Item) (is : List Item) → 1 ≤ size → Well q → Chosen q c s i is → AllHeld Q q → MaybeHeld (hand_out size q es c s i is)
  unfolding hand_out
  held_hand_out size q es c s i is l w f a = go (short_of_head q s i n)
    where
      n : ℕ
      n = min c.bytes_remaining size

      sent : Step
      sent = reply (fragment (make_fragment s (numbered s.counters i).item n)) (es ++ sent_events q s n) (handed_out q c s i is n)

      positive : 0 < n
      positive = let u = (head_well q c.stream_id s i is w f.choice_head).0.unsent in let z = f.choice_size in omega arith

      go : (b : Bool) → MaybeHeld (if b then none else some sent)
      go true = tt
      go false = held_handed q c.stream_id s i is w f.choice_head a c n positive

  held_after : (again : Queue → List Event → Option Step) (size : ℕ) (q : Queue) (es : List Event) (l : Look) → 1 ≤ size → Well q → FineLook q l → LookHeld l → AllHeld Q q
      → ((r : Queue) (ds : List Event) → Well r → AllHeld Q r → MaybeHeld (again r ds)) → MaybeHeld (after_look again size q es l)
  unfolding after_look
  held_after again size q es nothing z w f g a h = a
  held_after again size q es broken z w f g a h = tt
  held_after again size q es (dropped r ds) z w f g a h = h r (es ++ ds) f.0 g
  held_after again size q es (chosen c s i is) z w f g a h = held_hand_out size q es c s i is z w f a

  held_pass : (turns now size : ℕ) (q : Queue) (es : List Event) → 1 ≤ size → Well q → AllHeld Q q → MaybeHeld (pass_over turns now size q es)
  unfolding pass_over
  held_pass zero now size q es z w a = tt
  held_pass (suc turns) now size q es z w a = held_after (λ r ds. pass_over turns now size r ds) size q es (look now q) z w (fine_look now q w) (held_look now q w a) a (λ r ds u b. held_pass turns now size r ds z u b)

  held_default : (q : Queue) (x : Option Step) → AllHeld Q q → MaybeHeld x → AllHeld Q (get_or x (refuse q 16)).next
  held_default q none a f = a
  held_default q (some s) a f = f

  held_produce : (store places buffer now size : ℕ) (q : Queue) → Well q → AllHeld Q q → AllHeld Q (Calls.produce store places buffer now size q).next
  unfolding Calls.produce
  held_produce store places buffer now size q w a =
      let x : Option Step = pass_over (suc (waiting q.streams)) now size q [] in
      held_checked (produce_checks store places buffer now size q) q (get_or x (refuse q 16)) a
      (λ p. held_default q x a (held_pass (suc (waiting q.streams)) now size q [] (inside 1 max_payload size p.1.1.1.0).0 w a))

  -- ---- close

  held_close_in : (p : PauseState) (q : Queue) (k : ℕ) → Well q → Kept (stream_at q k) → (stream_at q k).pause_state ≡ p → AllHeld Q q → AllHeld Q (close_in p q (stream_at q k)).next
  unfolding close_in closed
  held_close_in not_paused q k w g e a =
      let s : Stream = stream_at q k in
      every_put stream_key (Held Q) _ q.streams (v.keeps_close s.items g.well_items (subst (λ (p : PauseState). Q p s.items) e (held_at q k a))) a
  held_close_in pending q k w g e a = a
  held_close_in paused q k w g e a = a
  held_close_in resetting q k w g e a = a

  held_close : (places k : ℕ) (q : Queue) → Well q → Kept (stream_at q k) → AllHeld Q q → AllHeld Q (Calls.close places k q).next
  unfolding Calls.close
  held_close places k q w g a =
      let s : Stream = stream_at q k in
      held_checked (close_checks places k q) q (close_in s.pause_state q s) a (λ p. held_close_in s.pause_state q k w g refl a)

  -- ---- ready ids, commit, rollback and the whole-queue reset

  held_resetting : (s : Stream) → Held Q s → Held Q (paused_to_resetting s)
  unfolding paused_to_resetting is_paused
  held_resetting s h = go s.pause_state refl
    where
      go : (p : PauseState) → s.pause_state ≡ p → Held Q (if elim p [ not_paused ↦ false | pending ↦ false | paused ↦ true | resetting ↦ false ] then model_with_pause resetting s else s)
      go not_paused e = h
      go pending e = h
      go paused e = v.keeps_ready s.items (subst (λ (p : PauseState). Q p s.items) e h)
      go resetting e = h

  held_ready : (q : Queue) → AllHeld Q q → AllHeld Q (Calls.ready_ids q).next
  unfolding Calls.ready_ids
  held_ready q a = every_map (Held Q) (Held Q) paused_to_resetting q.streams held_resetting a

  held_opened : (z : Bool) (s : Stream) → Q not_paused s.items → Held Q (opened z s)
  unfolding opened
  held_opened true s h = h
  held_opened false s h = h

  held_reopened : (z : Bool) (s : Stream) → Held Q s → Held Q (reopened z s)
  unfolding reopened is_resetting
  held_reopened z s h = go s.pause_state refl
    where
      go : (p : PauseState) → s.pause_state ≡ p → Held Q (if elim p [ not_paused ↦ false | pending ↦ false | paused ↦ false | resetting ↦ true ] then opened z s else s)
      go not_paused e = h
      go pending e = h
      go paused e = h
      go resetting e = held_opened z s (v.keeps_open s.items (subst (λ (p : PauseState). Q p s.items) e h))

  held_reopen : (z : Bool) (q : Queue) → AllHeld Q q → AllHeld Q (reopen z q).next
  unfolding reopen
  held_reopen z q a = every_map (Held Q) (Held Q) (reopened z) q.streams (held_reopened z) a

  held_reset_stream : (s : Stream) → Held Q s × Kept s → Held Q (reset_stream o.strict_restart s)
  unfolding reset_stream
  held_reset_stream s h = v.keeps_reset s.pause_state s.items h.1.well_items h.0

  held_reset : (q : Queue) → Well q → q.options ≡ o → AllHeld Q q → AllHeld Q (Calls.reset q).next
  unfolding Calls.reset
  held_reset q w e a =
      held_checked (reset_checks q) q _ a (λ p.
      subst (λ (x : Options). Every (Held Q) (map (reset_stream x.strict_restart) q.streams)) (sym e)
      (every_map (λ s. Held Q s × Kept s) (Held Q) (reset_stream o.strict_restart) q.streams held_reset_stream (every_both (Held Q) Kept q.streams a w.kept)))

  -- ---- settings

  held_set_threshold : (places k t : ℕ) (q : Queue) → AllHeld Q q → AllHeld Q (Calls.set_threshold places k t q).next
  unfolding Calls.set_threshold
  held_set_threshold places k t q a =
      let s : Stream = stream_at q k in
      held_checked (threshold_checks places k q) q (reply done (raised_event s t) (know q (with_threshold t s))) a (λ p. every_put stream_key (Held Q) (with_threshold t s) q.streams (held_at q k a) a)

  held_set_priority : (k n : ℕ) (q : Queue) → AllHeld Q q → AllHeld Q (Calls.set_priority k n q).next
  unfolding Calls.set_priority
  held_set_priority k n q a =
      let s : Stream = stream_at q k in
      held_checked (priority_checks k q) q (reply done [] (know q (with_priority n s))) a (λ p. every_put stream_key (Held Q) (with_priority n s) q.streams (held_at q k a) a)

  held_set_interleaving : (b : Bool) (q : Queue) → AllHeld Q q → AllHeld Q (Calls.set_interleaving b q).next
  unfolding Calls.set_interleaving switched
  held_set_interleaving b q a = go (same_bool b q.interleaving)
    where
      go : (x : Bool) → AllHeld Q (if x then q else switched b q)
      go true = a
      go false = a

  -- ---- restoring

  -- Restored streams are open.
  abbrev Opened : Stream → Type 0
  Opened s = (s.pause_state ≡ not_paused) × Q not_paused s.items

  opened_streams : (rs : List StreamRecord) → Every Opened (map (restored_stream o) rs)
  unfolding restored_stream
  opened_streams [] = tt
  opened_streams (r ∷ rs) = ((refl, v.keeps_new), opened_streams rs)

  opened_messages : (now : ℕ) (rs : List MessageRecord) (ss : List Stream) → any (mid_too_early o.strict_restart) rs ≡ false → Every Opened ss → Every Opened (restore_messages o now rs ss)
  unfolding restore_messages restore_message any
  opened_messages now [] ss n a = a
  opened_messages now (r ∷ rs) ss n a =
      let x : Bool = mid_too_early o.strict_restart r in let y : Bool = any (mid_too_early o.strict_restart) rs in
      let s : Stream = at o ss r.id in
      let b : Opened s = every_at Opened o r.id ss a (refl, v.keeps_new) in
      opened_messages now rs (restore_message o now r ss) (or_right x y n) (every_put stream_key Opened (with_message s (restored_item now r)) ss (b.0, v.keeps_restore now r s.items (or_left x y n) b.1) a)

  held_restored : (now : ℕ) (h : Handover) (q : Queue) → q.options ≡ o → any (mid_too_early o.strict_restart) h.messages ≡ false → AllHeld Q (restored now h q)
  unfolding restored restore_streams
  held_restored now h q e n =
      let ss : List Stream = restore_messages o now h.messages (map (restored_stream o) h.streams) in
      subst (λ (x : Options). Every (Held Q) (restore_messages x now h.messages (map (restored_stream x) h.streams))) (sym e)
      (every_weaken Opened (Held Q) ss (λ s b. subst (λ (p : PauseState). Q p s.items) (sym b.0) b.1) (opened_messages now h.messages (map (restored_stream o) h.streams) n (opened_streams h.streams)))

  held_read : (now : ℕ) (q : Queue) (x : Option Handover) → q.options ≡ o → AllHeld Q q → AllHeld Q (restore_read now q x).next
  unfolding restore_read
  held_read now q none e a = a
  held_read now q (some h) e a =
      held_checked (record_checks now q h) q (reply done [] (restored now h q)) a
      (λ p. held_restored now h q e (subst (λ (x : Options). any (mid_too_early x.strict_restart) h.messages ≡ false) e p.0))

  held_restore : (store now : ℕ) (image : List ℕ) (q : Queue) → q.options ≡ o → AllHeld Q q → AllHeld Q (Restore.restore store now image q).next
  unfolding Restore.restore
  held_restore store now image q e a = held_checked (restore_checks store now q) q (restore_read now q (read_image image)) a (λ p. held_read now q (read_image image) e a)

  -- ---- every call

  pub held_step : (c : Call) (q : Queue) → Typed c → Well q → q.options ≡ o → AllHeld Q q → AllHeld Q (step c q).next
  unfolding step
  held_step (add store now m) q t w e a = held_add store now m q a
  held_step (produce store places buffer now size) q t w e a = held_produce store places buffer now size q w a
  held_step (fill store places buffer now p) q t w e a =
      (fill_keeps (λ q. Well q × AllHeld Q q) (λ store places buffer now size q k. ((fine_produce store places buffer now size q k.0).next_well, held_produce store places buffer now size q k.0 k.1)) store places buffer now p q (w, a)).1
  held_step (discard places s k) q t w e a = held_discard places s k q w a
  held_step (close places s) q t w e a = held_close places s q w (kept_at q s w t.1) a
  held_step ready_ids q t w e a = held_ready q a
  held_step commit q t w e a = held_reopen true q a
  held_step rollback q t w e a = held_reopen false q a
  held_step reset q t w e a = held_reset q w e a
  held_step (set_threshold places s n) q t w e a = held_set_threshold places s n q a
  held_step (set_priority s p) q t w e a = held_set_priority s p q a
  held_step (set_interleaving b) q t w e a = held_set_interleaving b q a
  held_step (restore store now image) q t w e a = held_restore store now image q e a
  held_step (ask_priority s) q t w e a = a
  held_step (ask_amount s) q t w e a = a
  held_step (ask_threshold s) q t w e a = a
  held_step ask_total q t w e a = a
  held_step ask_empty q t w e a = a
  held_step ask_has_data q t w e a = a
  held_step ask_streams_ready q t w e a = a
  held_step ask_ready_count q t w e a = a
  held_step ask_readiness q t w e a = a
  held_step (ask_room r) q t w e a = a

  -- So it holds of every reachable queue.
  pub held_reachable : {q : Queue} → Reachable o q → AllHeld Q q
  held_reachable (created c) = unfold new_queue in tt
  held_reachable (called {q = p} r c t) = held_step c p t (reachable_well r) (reachable_options r) (held_reachable r)
