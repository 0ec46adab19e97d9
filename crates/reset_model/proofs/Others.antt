-- No call but ready ids, commit, rollback and the whole-queue reset changes which streams are resetting. Assumes nothing.
use mathlib.Core.Path.{◌≡◌, refl, sym, ap, ◌∙◌, subst}
use mathlib.Core.Bool.{Bool, true, false, not}
use mathlib.Core.List.{List, [], ◌∷◌, ◌++◌, map}
use mathlib.Core.Option.{Option, none, some, get_or}
use Prim.Native.Nat.{ℕ, zero, suc, ◌-◌, min}
use native.Mathlib.Omega.{arith}
use lib.Dec.{eqb}
use borrow.Author.Tests.{not-false}
use Rattle.std.specs.Prelude.{if◌then◌else◌}
use Rattle.queue_model.specs.Logic.{is_nil, same_bool}
use Rattle.queue_model.specs.Types.{Item, Packet, PauseState, not_paused, pending, paused, resetting, Stream, Active, Options, Queue, Event, Message, done, Step, remaining, expired, with_items, model_with_pause, with_threshold, with_priority, refuse, reply}
use Rattle.queue_model.specs.Scheduler.{peek}
use Rattle.queue_model.specs.Streams.{find_stream, put_stream, stream_at, waiting, stream_key, at, with_message, know}
use Rattle.queue_model.specs.Refusals.{Check, first_refusal, short_of, refused_or, checked, short_of_head}
use Rattle.queue_model.specs.Add.{added, add_checks, new_item}
use Rattle.queue_model.specs.Amounts.{drop_head_events}
use Rattle.queue_model.specs.Produce.{Head, head_of, drop_head, drop_in, Look, nothing, broken, dropped, chosen, look_at, look, handed_out_last, handed_out_part, handed_out, hand_out, pass_over, after_look, look_expired, look_for, produce_checks, end_pending}
use Rattle.queue_model.specs.Discard.{discard_at, discard_checks, discarded}
use Rattle.queue_model.specs.Close.{closed, close_checks, close_in, closed_state, kept}
use Rattle.queue_model.specs.Reset.{is_resetting}
use Rattle.queue_model.specs.Settings.{priority_checks, raised_event, threshold_checks, switched}
use Rattle.queue_model.specs.Image.{MessageRecord, StreamRecord, Handover}
use Rattle.queue_model.specs.Reader.{read_image}
use Rattle.queue_model.specs.Restore.{restored_stream, restored_item, restore_streams, restore_message, restore_messages, restored, record_checks, restore_checks, restore_read}
use Rattle.queue_model.specs.Run.{Call, add, produce, fill, discard, close, ready_ids, commit, rollback, reset, set_threshold, set_priority, set_interleaving, restore, ask_priority, ask_amount, ask_threshold, ask_total, ask_empty, ask_has_data, ask_streams_ready, ask_ready_count, ask_readiness, ask_room, step}
use Rattle.queue_model.proofs.Table.{Every, every_put, find_key}
use Rattle.queue_model.proofs.Checks.{or_left, nil_of, Passed, all_passed, restore_of}
use Rattle.queue_model.proofs.Streams.{at_found, at_id, every_at}
use Rattle.queue_model.proofs.Invariant.Well.{Well}
use Rattle.queue_model.proofs.Invariant.Sends.{head_of_at, headless, headed, heads, FineLook, fine_look, fine_produce}
use Rattle.queue_model.proofs.Fill.Calls.{fill_keeps}
use Rattle.queue_model.proofs.Calm.Calm.{HeadAt}
use Rattle.queue_model.specs.Calls
use Rattle.queue_model.specs.Restore
use Rattle.reset_model.specs.Handler.{resetting_ids}
use Rattle.reset_model.specs.Uses.{only_by_it}
use Rattle.reset_model.proofs.Resetting.{by_state, put_same, none_resetting}

-- The same streams are resetting.
abbrev pub Same : Queue → Queue → Type 0
Same q r = resetting_ids r.streams ≡ resetting_ids q.streams

same_checked : (cs : List Check) (q : Queue) (s : Step) → (Passed cs → Same q s.next) → Same q (checked cs q s).next
unfolding checked refused_or
same_checked cs q s h = go (first_refusal cs) refl
  where
    go : (o : Option ℕ) → first_refusal cs ≡ o → Same q (refused_or o q s).next
    go none e = h (all_passed cs e)
    go (some r) e = refl

same_either : (q : Queue) (b : Bool) (s t : Step) → Same q s.next → Same q t.next → Same q (if b then s else t).next
same_either q true s t x y = x
same_either q false s t x y = y

-- A stream that takes the place of the id k's and is resetting exactly if that is.
put_as : (q : Queue) (k : ℕ) (s : Stream) → Well q → s.id ≡ k → is_resetting s ≡ is_resetting (stream_at q k) → resetting_ids (put_stream s q.streams) ≡ resetting_ids q.streams
put_as q k s w i n = put_same q.options s q.streams w.rising (n ∙ ap (λ (j : ℕ). is_resetting (at q.options q.streams j)) (sym i))

put_own : (q : Queue) (k : ℕ) (s : Stream) → Well q → s.id ≡ k → s.pause_state ≡ (stream_at q k).pause_state → resetting_ids (put_stream s q.streams) ≡ resetting_ids q.streams
put_own q k s w i e = put_as q k s w i (by_state s (stream_at q k) e)

-- ---- adding and setting

same_add : (store now : ℕ) (m : Message) (q : Queue) → Well q → Same q (Calls.add store now m q).next
unfolding Calls.add added
same_add store now m q w =
    same_checked (add_checks store now m q) q (reply done [] (added now m q))
    (λ p. put_own q m.stream_id (with_message (stream_at q m.stream_id) (new_item now q.next_message_id m)) w (at_id q.options q.streams m.stream_id) refl)

same_threshold : (places k t : ℕ) (q : Queue) → Well q → Same q (Calls.set_threshold places k t q).next
unfolding Calls.set_threshold
same_threshold places k t q w =
    same_checked (threshold_checks places k q) q (reply done (raised_event (stream_at q k) t) (know q (with_threshold t (stream_at q k))))
    (λ p. put_own q k (with_threshold t (stream_at q k)) w (at_id q.options q.streams k) refl)

same_priority : (k p : ℕ) (q : Queue) → Well q → Same q (Calls.set_priority k p q).next
unfolding Calls.set_priority
same_priority k p q w =
    same_checked (priority_checks k q) q (reply done [] (know q (with_priority p (stream_at q k))))
    (λ c. put_own q k (with_priority p (stream_at q k)) w (at_id q.options q.streams k) refl)

same_interleaving : (b : Bool) (q : Queue) → Same q (Calls.set_interleaving b q).next
unfolding Calls.set_interleaving switched
same_interleaving b q = go (same_bool b q.interleaving)
  where
    go : (x : Bool) → Same q (if x then q else switched b q)
    go true = refl
    go false = refl

-- ---- a head that leaves its stream, or a part of it

-- "When a pending stream's message ends or is discarded, it is paused": a state that is resetting exactly if it was.
ended_as : (p : PauseState) (s : Stream) → s.pause_state ≡ p → is_resetting (model_with_pause (end_pending p) s) ≡ is_resetting s
unfolding is_resetting end_pending
ended_as not_paused s e = by_state (model_with_pause not_paused s) s (sym e)
ended_as pending s e = ap (λ (p : PauseState). is_resetting (model_with_pause p s)) (sym e)
ended_as paused s e = by_state (model_with_pause paused s) s (sym e)
ended_as resetting s e = by_state (model_with_pause resetting s) s (sym e)

module _ (q : Queue) (k : ℕ) (s : Stream) (i : Item) (is : List Item) (w : Well q) (h : HeadAt q.streams k s i is) where
  at_head : stream_at q k ≡ s
  at_head = at_found q.options q.streams k s h.found

  head_is : s.id ≡ k
  head_is = find_key stream_key k q.streams s h.found

  put_head : (t : Stream) → t.id ≡ s.id → is_resetting t ≡ is_resetting s → resetting_ids (put_stream t q.streams) ≡ resetting_ids q.streams
  put_head t e n = put_as q k t w (e ∙ head_is) (n ∙ ap is_resetting (sym at_head))

  same_drop : Same q (drop_head q s i is)
  unfolding drop_head
  same_drop = put_head (with_items s _ is) refl (by_state (with_items s _ is) s refl)

  same_drop_in : (p : PauseState) → s.pause_state ≡ p → Same q (drop_in p q s i is)
  unfolding drop_in is_resetting end_pending
  same_drop_in not_paused e = same_drop
  same_drop_in pending e = put_head (model_with_pause paused (with_items s (s.amount - remaining i) is)) refl (ended_as pending s e)
  same_drop_in paused e = same_drop
  same_drop_in resetting e = same_drop

  same_handed : (a : Active) (n : ℕ) → Same q (handed_out q a s i is n)
  unfolding handed_out handed_out_last handed_out_part is_resetting
  same_handed a n = go (eqb n (remaining i))
    where
      go : (b : Bool) → Same q (if b then handed_out_last q a s i is n else handed_out_part q a s i is n)
      go true = put_head _ refl (ended_as s.pause_state s refl)
      go false = put_head _ refl refl

-- ---- discard

same_discard : (places k m : ℕ) (q : Queue) → Well q → Same q (Calls.discard places k m q).next
unfolding Calls.discard discard_at discarded
same_discard places k m q w = same_checked (discard_checks places) q (discard_at m q (head_of (find_stream k q.streams))) (λ p. elim (heads q.streams k) [
  | headless e n ↦ subst (λ (x : Head). Same q (discard_at m q x).next) (sym e) refl
  | headed s i is h ↦ subst (λ (x : Head). Same q (discard_at m q x).next) (sym (head_of_at q.streams k s i is h))
      (same_either q (eqb i.message_id m) (discarded q s i is) (reply done [] q)
      (same_either q (short_of q s (remaining i)) (refuse q 16) (reply done (drop_head_events q s i) (drop_in s.pause_state q s i is)) refl (same_drop_in q k s i is w h s.pause_state refl)) refl)
])

-- ---- close

closed_not : (is : List Item) (s : Stream) → is_resetting (model_with_pause (closed_state is) s) ≡ false
unfolding is_resetting closed_state
closed_not [] s = refl
closed_not (i ∷ is) s = refl

open_not : (s : Stream) → s.pause_state ≡ not_paused → is_resetting s ≡ false
unfolding is_resetting
open_not s e = ap (λ (p : PauseState). is_resetting (model_with_pause p s)) e

same_closed : (k : ℕ) (q : Queue) → Well q → (stream_at q k).pause_state ≡ not_paused → Same q (closed q (stream_at q k)).next
unfolding closed
same_closed k q w e =
    put_as q k _ w (at_id q.options q.streams k)
    (closed_not (kept (stream_at q k).items) (with_items (stream_at q k) _ (kept (stream_at q k).items)) ∙ sym (open_not (stream_at q k) e))

same_close : (places k : ℕ) (q : Queue) → Well q → Same q (Calls.close places k q).next
unfolding Calls.close close_in
same_close places k q w = same_checked (close_checks places k q) q (close_in (stream_at q k).pause_state q (stream_at q k)) (λ p. go (stream_at q k).pause_state refl)
  where
    go : (p : PauseState) → (stream_at q k).pause_state ≡ p → Same q (close_in p q (stream_at q k)).next
    go not_paused e = same_closed k q w e
    go pending e = refl
    go paused e = refl
    go resetting e = refl

-- ---- the next fragment

abbrev SameLook : Queue → Look → Type 0
SameLook q nothing = Unit {0}
SameLook q broken = Unit {0}
SameLook q (dropped r ds) = Same q r
SameLook q (chosen a s i is) = Unit {0}

same_look : (now : ℕ) (q : Queue) → Well q → SameLook q (look now q)
unfolding look look_for look_at look_expired
same_look now q w = go (peek q.scheduler)
  where
    drops : (a : Active) (x y : Bool) (s : Stream) (i : Item) (is : List Item) → HeadAt q.streams a.stream_id s i is
        → SameLook q (if x then (if y then broken else dropped (drop_in s.pause_state q s i is) (drop_head_events q s i)) else chosen a s i is)
    drops a true true s i is h = tt
    drops a true false s i is h = same_drop_in q a.stream_id s i is w h s.pause_state refl
    drops a false y s i is h = tt

    at_one : (a : Active) → SameLook q (look_at now q a (head_of (find_stream a.stream_id q.streams)))
    at_one a = elim (heads q.streams a.stream_id) [
      | headless f n ↦ subst (λ (x : Head). SameLook q (look_at now q a x)) (sym f) tt
      | headed s i is h ↦ subst (λ (x : Head). SameLook q (look_at now q a x)) (sym (head_of_at q.streams a.stream_id s i is h)) (drops a (expired now i.expires_at) (short_of q s (remaining i)) s i is h)
    ]

    go : (x : Option Active) → SameLook q (look_for now q x)
    go none = tt
    go (some a) = at_one a

abbrev SameMaybe : Queue → Option Step → Type 0
SameMaybe q none = Unit {0}
SameMaybe q (some s) = Same q s.next

same_hand_out : (size : ℕ) (q : Queue) (es : List Event) (a : Active) (s : Stream) (i : Item) (is : List Item) → Well q → HeadAt q.streams a.stream_id s i is → SameMaybe q (hand_out size q es a s i is)
unfolding hand_out
same_hand_out size q es a s i is w h = go _ (short_of_head q s i (min a.bytes_remaining size)) (same_handed q a.stream_id s i is w h a (min a.bytes_remaining size))
  where
    go : (t : Step) (b : Bool) → Same q t.next → SameMaybe q (if b then none else some t)
    go t true e = tt
    go t false e = e

same_after : (size : ℕ) (q : Queue) (es : List Event) → Well q → (again : Queue → List Event → Option Step) (l : Look) → FineLook q l → SameLook q l → ((r : Queue) (ds : List Event) → Well r → SameMaybe r (again r ds)) → SameMaybe q (after_look again size q es l)
unfolding after_look
same_after size q es w again nothing v b ih = refl
same_after size q es w again broken v b ih = tt
same_after size q es w again (dropped r ds) v b ih = chain (again r (es ++ ds)) (ih r (es ++ ds) v.0)
  where
    chain : (x : Option Step) → SameMaybe r x → SameMaybe q x
    chain none u = tt
    chain (some s) u = u ∙ b
same_after size q es w again (chosen a s i is) v b ih = same_hand_out size q es a s i is w v.choice_head

same_pass : (f now size : ℕ) (q : Queue) (es : List Event) → Well q → SameMaybe q (pass_over f now size q es)
unfolding pass_over
same_pass zero now size q es w = tt
same_pass (suc f) now size q es w = same_after size q es w (λ (r : Queue) (ds : List Event). pass_over f now size r ds) (look now q) (fine_look now q w) (same_look now q w) (λ r ds v. same_pass f now size r ds v)

same_produce : (store places buffer now size : ℕ) (q : Queue) → Well q → Same q (Calls.produce store places buffer now size q).next
unfolding Calls.produce
same_produce store places buffer now size q w =
    same_checked (produce_checks store places buffer now size q) q (get_or (pass_over (suc (waiting q.streams)) now size q []) (refuse q 16))
    (λ p. go (pass_over (suc (waiting q.streams)) now size q []) (same_pass (suc (waiting q.streams)) now size q [] w))
  where
    go : (x : Option Step) → SameMaybe q x → Same q (get_or x (refuse q 16)).next
    go none u = refl
    go (some s) u = u

-- A filling is calls for the next fragment.
same_fill : (store places buffer now : ℕ) (p : Packet) (q : Queue) → Well q → Same q (Calls.fill store places buffer now p q).next
same_fill store places buffer now p q w =
    (fill_keeps (λ (r : Queue). Well r × Same q r) (λ s l b t n r k. ((fine_produce s l b t n r k.0).next_well, same_produce s l b t n r k.0 ∙ k.1)) store places buffer now p q (w, refl)).1

-- ---- restoring: "Restored streams are open"

abbrev NotResetting : Stream → Type 0
NotResetting s = is_resetting s ≡ false

open_records : (o : Options) (rs : List StreamRecord) → Every NotResetting (map (restored_stream o) rs)
unfolding restored_stream is_resetting
open_records o [] = tt
open_records o (r ∷ rs) = (refl, open_records o rs)

open_messages : (o : Options) (now : ℕ) (rs : List MessageRecord) (ss : List Stream) → Every NotResetting ss → Every NotResetting (restore_messages o now rs ss)
unfolding restore_messages restore_message is_resetting
open_messages o now [] ss a = a
open_messages o now (r ∷ rs) ss a =
    open_messages o now rs _ (every_put stream_key NotResetting (with_message (at o ss r.id) (restored_item now r)) ss (every_at NotResetting o r.id ss a refl) a)

pub restored_none : (now : ℕ) (h : Handover) (q : Queue) → resetting_ids (restored now h q).streams ≡ []
unfolding restored restore_streams
restored_none now h q = none_resetting _ (open_messages q.options now h.messages (map (restored_stream q.options) h.streams) (open_records q.options h.streams))

no_streams : (q : Queue) → q.streams ≡ [] → resetting_ids q.streams ≡ []
unfolding resetting_ids
no_streams q e = ap resetting_ids e

same_read : (now : ℕ) (q : Queue) (x : Option Handover) → q.streams ≡ [] → Same q (restore_read now q x).next
unfolding restore_read
same_read now q none e = refl
same_read now q (some h) e = same_checked (record_checks now q h) q (reply done [] (restored now h q)) (λ p. restored_none now h q ∙ sym (no_streams q e))

same_restore : (store now : ℕ) (image : List ℕ) (q : Queue) → Same q (Restore.restore store now image q).next
same_restore store now image q =
    subst (λ (s : Step). Same q s.next) (sym (restore_of store now image q))
    (same_checked (restore_checks store now q) q (restore_read now q (read_image image))
    (λ p. same_read now q (read_image image) (nil_of q.streams (not-false (is_nil q.streams) (or_left (not (is_nil q.streams)) (not (eqb q.next_message_id 0)) p.1.1.0)))))

-- ---- every other call

pub same_other : (c : Call) (q : Queue) → Well q → only_by_it c ≡ false → Same q (step c q).next
unfolding step
same_other (add store now m) q w n = same_add store now m q w
same_other (produce store places buffer now size) q w n = same_produce store places buffer now size q w
same_other (fill store places buffer now p) q w n = same_fill store places buffer now p q w
same_other (discard places s k) q w n = same_discard places s k q w
same_other (close places s) q w n = same_close places s q w
same_other ready_ids q w n = let z : ◌≡◌ {A = ℕ} 0 1 = cc in absurd (omega arith)
same_other commit q w n = let z : ◌≡◌ {A = ℕ} 0 1 = cc in absurd (omega arith)
same_other rollback q w n = let z : ◌≡◌ {A = ℕ} 0 1 = cc in absurd (omega arith)
same_other reset q w n = let z : ◌≡◌ {A = ℕ} 0 1 = cc in absurd (omega arith)
same_other (set_threshold places s t) q w n = same_threshold places s t q w
same_other (set_priority s p) q w n = same_priority s p q w
same_other (set_interleaving b) q w n = same_interleaving b q
same_other (restore store now image) q w n = same_restore store now image q
same_other (ask_priority s) q w n = refl
same_other (ask_amount s) q w n = refl
same_other (ask_threshold s) q w n = refl
same_other ask_total q w n = refl
same_other ask_empty q w n = refl
same_other ask_has_data q w n = refl
same_other ask_streams_ready q w n = refl
same_other ask_ready_count q w n = refl
same_other ask_readiness q w n = refl
same_other (ask_room r) q w n = refl
