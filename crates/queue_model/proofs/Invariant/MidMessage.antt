-- A queue that never had interleaving, and was new or restored from an image with at most one half-sent message, remembers the stream whose head is half-sent: document 02's 10/13.
-- Assumes nothing.
use mathlib.Core.Path.{◌≡◌, refl, sym, ap, ap₂, ◌∙◌, subst}
use mathlib.Core.Bool.{Bool, true, false, not, ◌&&◌}
use mathlib.Core.List.{List, [], ◌∷◌, ◌++◌, map}
use mathlib.Core.Option.{Option, none, some}
use Prim.Native.Nat.{ℕ, zero, suc, ◌+◌, ◌-◌, ◌≤◌, ◌<◌}
use native.Mathlib.Omega.{arith}
use lib.Dec.{T, ltb, eqb, eqb→eq}
use lib.ListN.{length}
use lib.Pow.{are_bytes}
use borrow.Author.Tests.{not-false}
use Rattle.types.specs.Wrap.{wrap_suc}
use Rattle.std.specs.Prelude.{if◌then◌else◌}
use Rattle.queue_model.specs.Logic.{same_bool}
use Rattle.queue_model.specs.Table.{sum_by}
use Rattle.queue_model.specs.Types.{Item, PauseState, not_paused, pending, paused, resetting, Stream, Weight, round_robin, weighted, Active, Scheduler, Options, Queue, done, Step, remaining, with_items, model_with_pause, with_state, with_threshold, with_priority, refuse, reply, Message}
use Rattle.queue_model.specs.Scheduler.{active_key, find_active, forget, remove_stream, set_bytes_remaining, remembered, least_of, or_else, peek, remember, accept_last, accept_part, accept}
use Rattle.queue_model.specs.Streams.{find_stream, put_stream, new_stream, stream_at, at, know, stream_key, with_message, new_queue, weight_of, head_size, reschedule, reschedule_each, has_items}
use Rattle.queue_model.specs.Refusals.{Check, first_refusal, refused_or, checked, short_of, max_payload}
use Rattle.queue_model.specs.Amounts.{drop_head_events}
use Rattle.queue_model.specs.Add.{added, add_checks, new_item, started, starts_waiting}
use Rattle.queue_model.specs.Produce.{Head, head_of, drop_head, drop_in, handed_out_last, handed_out_part, handed_out}
use Rattle.queue_model.specs.Discard.{discarded, discard_at, discard_checks}
use Rattle.queue_model.specs.Close.{swept_bytes, closed_state, closed_scheduler, closed, close_in, close_checks}
use Rattle.queue_model.specs.Reset.{is_resetting, paused_to_resetting, reopened, reopen, model_whole_item, whole_head, reset_stream, reset_checks}
use Rattle.queue_model.specs.Settings.{threshold_checks, priority_checks, raised_event, switched}
use Rattle.queue_model.specs.Image.{StreamRecord, MessageRecord, Handover}
use Rattle.queue_model.specs.Reader.{read_image, streams_right, messages_right, handover_right}
use Rattle.queue_model.specs.Restore.{restored_stream, restored_item, restore_streams, restore_message, restore_messages, half_sent_first, first_half_sent, remember_half_sent, restored, record_checks, restore_read, restore_checks}
use Rattle.queue_model.specs.Run.{Call, add, produce, fill, discard, close, ready_ids, commit, rollback, reset, set_threshold, set_priority, set_interleaving, restore, ask_priority, ask_amount, ask_threshold, ask_total, ask_empty, ask_has_data, ask_streams_ready, ask_ready_count, ask_readiness, ask_room, step}
use Rattle.queue_model.specs.Demands.{Typed, Reachable, created, called}
use Rattle.queue_model.specs.MidMessage.{half_sent_record, half_sent_records, AtMostOne, Uninterrupted, NeverInterleaved, at_first, later, Request10Remembered}
use Rattle.queue_model.proofs.Tests.{holds, ltb_false, leb_false, eqb_true, eqb_false, less, same, more, tri}
use Rattle.queue_model.proofs.Table.{Rising, rising_put, After, Every, every_put, every_map, every_weaken, every_find, find_key, put_end, put_here, put_later, put_before, after_down}
use Rattle.queue_model.proofs.Scheduler.{set_none, set_some, reschedule_of, each_nil, each_cons}
use Rattle.queue_model.proofs.Checks.{Passed, all_passed, checked_past, restore_of, read_none, read_some}
use Rattle.queue_model.proofs.Streams.{at_id, every_at, sum_put_at}
use Rattle.queue_model.proofs.Image.ByteRows.{and_l}
use Rattle.queue_model.proofs.Image.ReadWrite.{Sound, image_sound}
use Rattle.queue_model.proofs.Invariant.Messages.{WellRest, WellItems}
use Rattle.queue_model.proofs.Invariant.Waits.{Remembers, WeightFits}
use Rattle.queue_model.proofs.Invariant.Well.{Kept, Well, inside, kept_at}
use Rattle.queue_model.proofs.Invariant.Fine.{keeps_none, keeps_first, keeps, Alike, paused_alike, reopened_alike}
use Rattle.queue_model.proofs.Invariant.Recalls.{positive}
use Rattle.queue_model.proofs.Invariant.Sends.{Chosen, headless, headed, heads, head_of_at, head_well, drop_in_well, fine_produce}
use Rattle.queue_model.proofs.Fill.Calls.{fill_keeps}
use Rattle.queue_model.proofs.Invariant.Passing.{Past, here, over, Ends, none_waits, hands_out, Next, refuses, passes, next_fragment}
use Rattle.queue_model.proofs.Invariant.Sixteen.{reachable_well}
use Rattle.queue_model.proofs.Calm.Calm.{HeadAt, behead}
use Rattle.queue_model.proofs.Demand3.Restored.{bases}
use Rattle.queue_model.specs.Calls
use Rattle.queue_model.specs.Restore

-- ---- half-sent heads

-- A half-sent first message's stream is the remembered one.
abbrev pub Recalled : Option ℕ → Stream → Type 0
Recalled c s = half_sent_first s.items ≡ true → c ≡ some s.id

-- No first message is half-sent.
abbrev pub Whole : Stream → Type 0
Whole s = half_sent_first s.items ≡ true → ⊥

pub record Recalls (q : Queue) : Type 0 where
  pub plain : q.interleaving ≡ false
  pub recalls : Every (Recalled q.scheduler.current) q.streams

pub not_both : (b : Bool) → b ≡ false → b ≡ true → ⊥
not_both b e f = let z : ◌≡◌ {A = ℕ} 0 1 = cc in omega arith

pub half_first : (i : Item) (is : List Item) → half_sent_first (i ∷ is) ≡ ltb 0 i.offset
unfolding half_sent_first
half_first i is = refl

pub none_half : half_sent_first [] ≡ false
unfolding half_sent_first
none_half = refl

start_half : (i : Item) (is : List Item) → i.offset ≡ 0 → half_sent_first (i ∷ is) ≡ false
start_half i is e = let l : i.offset ≤ 0 = omega arith in half_first i is ∙ ltb_false l

rest_half : (is : List Item) → WellRest is → half_sent_first is ≡ false
rest_half [] w = none_half
rest_half (i ∷ is) w = start_half i is (w.0.no_offset w.1.0)

-- A message behind the first changes nothing.
snoc_half : (is : List Item) (i : Item) → i.offset ≡ 0 → half_sent_first (is ++ (i ∷ [])) ≡ half_sent_first is
snoc_half [] i e = start_half i [] e ∙ sym none_half
snoc_half (j ∷ is) i e = half_first j (is ++ (i ∷ [])) ∙ sym (half_first j is)

-- ---- a stream put in its place, whatever stood there

after_but : (P : Stream → Type 0) (k : ℕ) (ss : List Stream) → After stream_key k ss → Every (λ s. (s.id ≡ k → ⊥) → P s) ss → Every P ss
after_but P k [] a e = tt
after_but P k (s ∷ ss) a e = let l = a.0 in (e.0 (λ g. omega arith), after_but P k ss a.1 e.1)

pub put_but : (P : Stream → Type 0) (s : Stream) (ss : List Stream) → P s → Rising stream_key ss → Every (λ x. (x.id ≡ s.id → ⊥) → P x) ss → Every P (put_stream s ss)
put_but P s [] h r e = subst (Every P) (sym (put_end stream_key s)) (h, tt)
put_but P s (x ∷ xs) h r e = elim (tri x.id s.id) [
  | less l ↦ subst (Every P) (sym (put_later stream_key s x xs l)) (e.0 (λ g. omega arith), put_but P s xs h r.1 e.1)
  | same g ↦ subst (Every P) (sym (put_here stream_key s x xs g)) (h, after_but P s.id xs (subst (λ (k : ℕ). After stream_key k xs) g r.0) e.1)
  | more l ↦ subst (Every P) (sym (put_before stream_key s x xs l)) (h, after_but P s.id (x ∷ xs) (l, after_down stream_key xs l r.0) e)
]

-- ---- the remembered stream, when streams are let wait

forget_other : (k j : ℕ) → (j ≡ k → ⊥) → forget k (some j) ≡ some j
unfolding forget
forget_other k j n = ap (λ (b : Bool). if b then none else some j) (eqb_false n)

remove_current : (k : ℕ) (sc : Scheduler) → (remove_stream k sc).current ≡ forget k sc.current
unfolding remove_stream
remove_current k sc = refl

removed_current : (k j : ℕ) (sc : Scheduler) → (j ≡ k → ⊥) → sc.current ≡ some j → (remove_stream k sc).current ≡ some j
removed_current k j sc n e = remove_current k sc ∙ ap (forget k) e ∙ forget_other k j n

pub set_current : (k n : ℕ) (w : Weight) (sc : Scheduler) → 0 < n → (set_bytes_remaining k n w sc).current ≡ sc.current
set_current k n w sc h = ap (λ (x : Scheduler). x.current) (set_some k n w sc h)

set_other_current : (k n j : ℕ) (w : Weight) (sc : Scheduler) → (j ≡ k → ⊥) → sc.current ≡ some j → (set_bytes_remaining k n w sc).current ≡ some j
set_other_current k zero j w sc m e = ap (λ (x : Scheduler). x.current) (set_none k w sc) ∙ removed_current k j sc m e
set_other_current k (suc n) j w sc m e = set_current k (suc n) w sc (omega arith) ∙ e

rescheduled_current : (il : Bool) (s : Stream) (sc : Scheduler) → 0 < head_size s.items → (reschedule il s sc).current ≡ sc.current
rescheduled_current il s sc h = ap (λ (x : Scheduler). x.current) (reschedule_of il s sc) ∙ set_current s.id (head_size s.items) (weight_of il s) sc h

rescheduled_other : (il : Bool) (s : Stream) (j : ℕ) (sc : Scheduler) → (j ≡ s.id → ⊥) → sc.current ≡ some j → (reschedule il s sc).current ≡ some j
rescheduled_other il s j sc n e = ap (λ (x : Scheduler). x.current) (reschedule_of il s sc) ∙ set_other_current s.id (head_size s.items) j (weight_of il s) sc n e

each_current : (il : Bool) (test : Stream → Bool) (rs : List Stream) (sc : Scheduler) → Every (λ s. test s ≡ true → 0 < head_size s.items) rs → (reschedule_each il test rs sc).current ≡ sc.current
each_current il test [] sc a = ap (λ (x : Scheduler). x.current) (each_nil il test sc)
each_current il test (s ∷ rs) sc a = ap (λ (x : Scheduler). x.current) (each_cons il test s rs sc) ∙ each_current il test rs (if test s then reschedule il s sc else sc) a.1 ∙ go (test s) refl
  where
    go : (b : Bool) → test s ≡ b → (if b then reschedule il s sc else sc).current ≡ sc.current
    go true e = rescheduled_current il s sc (a.0 e)
    go false e = refl

-- ---- calls that check

recalls_checked : (cs : List Check) (q : Queue) (s : Step) → Recalls q → (Passed cs → Recalls s.next) → Recalls (checked cs q s).next
unfolding checked refused_or
recalls_checked cs q s a h = go (first_refusal cs) refl
  where
    go : (x : Option ℕ) → first_refusal cs ≡ x → Recalls (refused_or x q s).next
    go none e = h (all_passed cs e)
    go (some n) e = a

recalled_at : (q : Queue) (k : ℕ) → Recalls q → Recalled q.scheduler.current (stream_at q k)
recalled_at q k a = every_at (Recalled q.scheduler.current) q.options k q.streams a.recalls (λ e. absurd (not_both (half_sent_first []) none_half e))

-- ---- add

pub snoc_positive : (is : List Item) (i : Item) → WellItems is → 0 < remaining i → 0 < head_size (is ++ (i ∷ []))
unfolding head_size
snoc_positive [] i w h = h
snoc_positive (j ∷ is) i w h = let u = w.0.unsent in omega arith

recalls_add : (store now : ℕ) (m : Message) (q : Queue) → Kept (stream_at q m.stream_id) → Recalls q → Recalls (Calls.add store now m q).next
unfolding Calls.add added started new_item
recalls_add store now m q g a =
    recalls_checked (add_checks store now m q) q (reply done [] (added now m q)) a (λ p. after (inside 1 max_payload (length m.payload) p.1.1.1.0).0 (starts_waiting s.pause_state && not (has_items s)))
  where
    s : Stream
    s = stream_at q m.stream_id

    i : Item
    i = new_item now q.next_message_id m

    s' : Stream
    s' = with_message s i

    recalled : Every (Recalled q.scheduler.current) (put_stream s' q.streams)
    recalled = every_put stream_key (Recalled q.scheduler.current) s' q.streams (λ e. recalled_at q m.stream_id a (sym (snoc_half s.items i refl) ∙ e)) a.recalls

    after : 1 ≤ length m.payload → (b : Bool)
        → Recalls (record { options = q.options; interleaving = q.interleaving; total = q.total + length m.payload; next_message_id = wrap_suc 32 q.next_message_id; streams = put_stream s' q.streams; scheduler = if b then reschedule q.interleaving s' q.scheduler else q.scheduler })
    after l true = record {
      plain = a.plain;
      recalls = subst (λ (c : Option ℕ). Every (Recalled c) (put_stream s' q.streams)) (sym (rescheduled_current q.interleaving s' q.scheduler (snoc_positive s.items i g.well_items (omega arith)))) recalled;
    }
    after l false = record { plain = a.plain; recalls = recalled }

-- ---- a head that leaves, whole or in part

module _ (q : Queue) (k : ℕ) (s : Stream) (i : Item) (is : List Item) (w : Well q) (h : HeadAt q.streams k s i is) (a : Recalls q) where
  behind_whole : half_sent_first is ≡ false
  behind_whole = rest_half is (head_well q k s i is w h).1

  -- The head leaves: another stream that is remembered stays so.
  gone_recalls : (s' : Stream) (c : Option ℕ) → s'.id ≡ s.id → s'.items ≡ is → ((j : ℕ) → (j ≡ s.id → ⊥) → q.scheduler.current ≡ some j → c ≡ some j) → Every (Recalled c) (put_stream s' q.streams)
  gone_recalls s' c e f g =
      put_but (Recalled c) s' q.streams (λ x. absurd (not_both (half_sent_first s'.items) (ap half_sent_first f ∙ behind_whole) x)) w.rising
      (every_weaken (Recalled q.scheduler.current) (λ x. (x.id ≡ s'.id → ⊥) → Recalled c x) q.streams (λ x r n y. g x.id (λ z. n (z ∙ sym e)) (r y)) a.recalls)

  drop_recalls : (p : PauseState) → Recalls (drop_in p q s i is)
  unfolding drop_in drop_head
  drop_recalls not_paused = record { plain = a.plain; recalls = gone_recalls (behead s i is) _ refl refl (λ j n e. rescheduled_other q.interleaving (behead s i is) j q.scheduler n e) }
  drop_recalls pending = record { plain = a.plain; recalls = gone_recalls (model_with_pause paused (behead s i is)) _ refl refl (λ j n e. removed_current s.id j q.scheduler n e) }
  drop_recalls paused = record { plain = a.plain; recalls = gone_recalls (behead s i is) _ refl refl (λ j n e. rescheduled_other q.interleaving (behead s i is) j q.scheduler n e) }
  drop_recalls resetting = record { plain = a.plain; recalls = gone_recalls (behead s i is) _ refl refl (λ j n e. rescheduled_other q.interleaving (behead s i is) j q.scheduler n e) }

-- ---- discard

recalls_discard_at : (m k : ℕ) (q : Queue) → Well q → Recalls q → Recalls (discard_at m q (head_of (find_stream k q.streams))).next
unfolding discard_at discarded
recalls_discard_at m k q w a = elim (heads q.streams k) [
  | headless e n ↦ subst (λ (x : Head). Recalls (discard_at m q x).next) (sym e) a
  | headed s i is h ↦ subst (λ (x : Head). Recalls (discard_at m q x).next) (sym (head_of_at q.streams k s i is h)) (go s i is h (eqb i.message_id m) (short_of q s (remaining i)))
]
  where
    go : (s : Stream) (i : Item) (is : List Item) → HeadAt q.streams k s i is → (x y : Bool)
        → Recalls (if x then (if y then refuse q 16 else reply done (drop_head_events q s i) (drop_in s.pause_state q s i is)) else reply done [] q).next
    go s i is h true true = a
    go s i is h true false = drop_recalls q k s i is w h a s.pause_state
    go s i is h false y = a

recalls_discard : (places k m : ℕ) (q : Queue) → Well q → Recalls q → Recalls (Calls.discard places k m q).next
unfolding Calls.discard
recalls_discard places k m q w a = recalls_checked (discard_checks places) q (discard_at m q (head_of (find_stream k q.streams))) a (λ p. recalls_discard_at m k q w a)

-- ---- next fragment

-- Only the stream that the scheduler chooses can have a half-sent head.
only_half : (q : Queue) (c : Active) → Well q → Recalls q → peek q.scheduler ≡ some c → Every (λ s. half_sent_first s.items ≡ true → s.id ≡ c.stream_id) q.streams
unfolding peek or_else remembered
only_half q c w a e = every_weaken (Recalled q.scheduler.current) (λ s. half_sent_first s.items ≡ true → s.id ≡ c.stream_id) q.streams (λ s r f. chosen_own s (r f)) a.recalls
  where
    sc : Scheduler
    sc = q.scheduler

    chosen_own : (s : Stream) → q.scheduler.current ≡ some s.id → s.id ≡ c.stream_id
    chosen_own s f =
        let h : Remembers (some s.id) sc.active = subst (λ (x : Option ℕ). Remembers x sc.active) f w.waits.sched.remembers in
        let g : or_else (find_active s.id sc.active) (least_of sc.active) ≡ some c = ap (λ (x : Option ℕ). or_else (remembered x sc.active) (least_of sc.active)) (sym f) ∙ e in
        let b : or_else (find_active s.id sc.active) (least_of sc.active) ≡ some h.0 = ap (λ (x : Option Active). or_else x (least_of sc.active)) h.1 in
        let d : h.0 ≡ c = cc in
        sym (find_key active_key s.id sc.active h.0 h.1) ∙ ap (λ (x : Active). x.stream_id) d

-- Without interleaving a fragment that is not the last makes its stream remembered.
part_current : (c : Active) (n : ℕ) (sc : Scheduler) → WeightFits false c.weight → n < c.bytes_remaining → (accept c n sc).current ≡ some c.stream_id
unfolding accept accept_part remember
part_current c n sc f l = ap (λ (b : Bool). (if b then accept_last c n sc else accept_part c n sc).current) (leb_false l) ∙ go c.weight f
  where
    go : (x : Weight) → WeightFits false x → remember c.stream_id x ≡ some c.stream_id
    go round_robin g = refl
    go (weighted v) g = let z : ◌≡◌ {A = ℕ} 0 1 = cc g.0 in absurd (omega arith)

module _ (q : Queue) (c : Active) (s : Stream) (i : Item) (is : List Item) (w : Well q) (v : Chosen q c s i is) (a : Recalls q) (e : peek q.scheduler ≡ some c) where
  own_id : s.id ≡ c.stream_id
  own_id = find_key stream_key c.stream_id q.streams s v.choice_head.found

  pub others_whole : (s' : Stream) → s'.id ≡ s.id → Every (λ x. (x.id ≡ s'.id → ⊥) → Whole x) q.streams
  others_whole s' f = every_weaken (λ x. half_sent_first x.items ≡ true → x.id ≡ c.stream_id) (λ x. (x.id ≡ s'.id → ⊥) → Whole x) q.streams (λ x r n y. n (r y ∙ sym own_id ∙ sym f)) (only_half q c w a e)

  -- After a last fragment no head is half-sent; after another one only this stream's.
  last_recalls : (s' : Stream) (d : Option ℕ) → s'.id ≡ s.id → s'.items ≡ is → Every (Recalled d) (put_stream s' q.streams)
  last_recalls s' d f g =
      every_weaken Whole (Recalled d) (put_stream s' q.streams) (λ x n y. absurd (n y))
      (put_but Whole s' q.streams (λ y. not_both (half_sent_first s'.items) (ap half_sent_first g ∙ behind_whole q c.stream_id s i is w v.choice_head a) y) w.rising (others_whole s' f))

  part_recalls : (s' : Stream) (d : Option ℕ) → s'.id ≡ s.id → d ≡ some s.id → Every (Recalled d) (put_stream s' q.streams)
  part_recalls s' d f g =
      put_but (Recalled d) s' q.streams (λ y. g ∙ ap {B = Option ℕ} some (sym f)) w.rising
      (every_weaken (λ x. (x.id ≡ s'.id → ⊥) → Whole x) (λ x. (x.id ≡ s'.id → ⊥) → Recalled d x) q.streams (λ x h n y. absurd (h n y)) (others_whole s' f))

  handed_recalls : (n : ℕ) → n ≤ c.bytes_remaining → Recalls (handed_out q c s i is n)
  unfolding handed_out handed_out_last handed_out_part
  handed_recalls n l = go (eqb n (remaining i)) refl
    where
      less_than : eqb n (remaining i) ≡ false → n < c.bytes_remaining
      less_than f =
          let z = v.choice_size in
          elim (tri n (remaining i)) [
            | less m ↦ omega arith
            | same g ↦ (let y = eqb_true g in let x : ◌≡◌ {A = ℕ} 0 1 = cc in absurd (omega arith))
            | more m ↦ absurd (omega arith)
          ]

      go : (b : Bool) → eqb n (remaining i) ≡ b → Recalls (if b then handed_out_last q c s i is n else handed_out_part q c s i is n)
      go true f = record { plain = a.plain; recalls = last_recalls _ _ refl refl }
      go false f = record { plain = a.plain; recalls = part_recalls _ _ refl (part_current c n q.scheduler (subst (λ (b : Bool). WeightFits b c.weight) a.plain v.choice_weight) (less_than f) ∙ ap {B = Option ℕ} some (sym own_id)) }

-- What passing over expired heads leaves.
pub recalls_past : (now : ℕ) (r q : Queue) → Past now r q → Well q → Recalls q → Recalls r
recalls_past now r q here w a = a
recalls_past now r q (over k s i is h e p) w a = recalls_past now r (drop_in s.pause_state q s i is) p (drop_in_well q k s i is w h s.pause_state) (drop_recalls q k s i is w h a s.pause_state)

recalls_ends : (r : Queue) (s : Step) → Well r → Recalls r → Ends r s → Recalls s.next
recalls_ends r s w a (none_waits e f g) = subst Recalls (sym g) a
recalls_ends r s w a (hands_out c t i is n e v l m f g) = let z = v.choice_size in subst Recalls (sym g) (handed_recalls r c t i is w v a e n (omega arith))

recalls_produce : (store places buffer now size : ℕ) (q : Queue) → Well q → Recalls q → Recalls (Calls.produce store places buffer now size q).next
recalls_produce store places buffer now size q w a = go (next_fragment store places buffer now size q w)
  where
    go : {s : Step} → Next now q s → Recalls s.next
    go (refuses n e) = subst (λ (x : Step). Recalls x.next) (sym e) a
    go {s} (passes p) = recalls_ends p.past s p.well (recalls_past now p.past q p.passed w a) p.ends

-- ---- close

recalls_closed : (q : Queue) (k : ℕ) → Kept (stream_at q k) → Well q → Recalls q → Recalls (closed q (stream_at q k)).next
unfolding closed closed_scheduler
recalls_closed q k g w a = elim (keeps s.items g.well_items) [
  | keeps_none e ↦ subst (λ (l : List Item). Recalls (after l)) (sym e) (record { plain = a.plain; recalls = ended (has_items s) })
  | keeps_first i rest e f l ↦ subst (λ (l : List Item). Recalls (after l)) (sym f) (record { plain = a.plain; recalls = kept_on i rest e })
]
  where
    s : Stream
    s = stream_at q k

    n : ℕ
    n = swept_bytes s.items

    swept : List Item → Stream
    swept l = model_with_pause (closed_state l) (with_items s (s.amount - n) l)

    after : List Item → Queue
    after l = with_state q (q.total - n) (put_stream (swept l) q.streams) (closed_scheduler s l q.scheduler)

    ended : (b : Bool) → Every (Recalled (if b then remove_stream s.id q.scheduler else q.scheduler).current) (put_stream (swept []) q.streams)
    ended true =
        put_but (Recalled (remove_stream s.id q.scheduler).current) (swept []) q.streams (λ x. absurd (not_both (half_sent_first []) none_half x)) w.rising
        (every_weaken (Recalled q.scheduler.current) (λ x. (x.id ≡ s.id → ⊥) → Recalled (remove_stream s.id q.scheduler).current x) q.streams (λ x r m y. removed_current s.id x.id q.scheduler m (r y)) a.recalls)
    ended false = every_put stream_key (Recalled q.scheduler.current) (swept []) q.streams (λ x. absurd (not_both (half_sent_first []) none_half x)) a.recalls

    kept_on : (i : Item) (rest : List Item) → s.items ≡ i ∷ rest → Every (Recalled q.scheduler.current) (put_stream (swept (i ∷ [])) q.streams)
    kept_on i rest e =
        every_put stream_key (Recalled q.scheduler.current) (swept (i ∷ [])) q.streams (λ x. recalled_at q k a (ap half_sent_first e ∙ half_first i rest ∙ sym (half_first i []) ∙ x)) a.recalls

recalls_close_in : (p : PauseState) (q : Queue) (k : ℕ) → Kept (stream_at q k) → Well q → Recalls q → Recalls (close_in p q (stream_at q k)).next
unfolding close_in
recalls_close_in not_paused q k g w a = recalls_closed q k g w a
recalls_close_in pending q k g w a = a
recalls_close_in paused q k g w a = a
recalls_close_in resetting q k g w a = a

recalls_close : (places k : ℕ) (q : Queue) → Kept (stream_at q k) → Well q → Recalls q → Recalls (Calls.close places k q).next
unfolding Calls.close
recalls_close places k q g w a = let s : Stream = stream_at q k in recalls_checked (close_checks places k q) q (close_in s.pause_state q s) a (λ p. recalls_close_in s.pause_state q k g w a)

-- ---- ready ids, commit, rollback and the whole-queue reset

-- A map that keeps ids and messages.
map_recalls : (c : Option ℕ) (f : Stream → Stream) (ss : List Stream) → ((s : Stream) → Alike s (f s)) → Every (Recalled c) ss → Every (Recalled c) (map f ss)
map_recalls c f ss h a = every_map (Recalled c) (Recalled c) f ss (λ s r e. r (ap half_sent_first (sym (h s).alike_items) ∙ e) ∙ ap {B = Option ℕ} some (sym (h s).alike_id)) a

recalls_ready : (q : Queue) → Recalls q → Recalls (Calls.ready_ids q).next
unfolding Calls.ready_ids
recalls_ready q a = record { plain = a.plain; recalls = map_recalls q.scheduler.current paused_to_resetting q.streams paused_alike a.recalls }

and_second : (x y : Bool) → (x && y) ≡ true → y ≡ true
and_second true y e = e
and_second false y e = let z : ◌≡◌ {A = ℕ} 0 1 = cc in absurd (omega arith)

has_positive : (s : Stream) → Kept s → has_items s ≡ true → 0 < head_size s.items
unfolding has_items
has_positive s g e = positive s.items g.well_items e

recalls_reopen : (z : Bool) (q : Queue) → Well q → Recalls q → Recalls (reopen z q).next
unfolding reopen
recalls_reopen z q w a =
    let test : Stream → Bool = λ s. is_resetting s && has_items s in
    let e : (reschedule_each q.interleaving test q.streams q.scheduler).current ≡ q.scheduler.current =
    each_current q.interleaving test q.streams q.scheduler (every_weaken Kept (λ s. test s ≡ true → 0 < head_size s.items) q.streams (λ s g f. has_positive s g (and_second (is_resetting s) (has_items s) f)) w.kept) in
    record { plain = a.plain; recalls = subst (λ (c : Option ℕ). Every (Recalled c) (map (reopened z) q.streams)) (sym e) (map_recalls q.scheduler.current (reopened z) q.streams (reopened_alike z) a.recalls) }

whole_recalled : (strict : Bool) (c : Option ℕ) (s : Stream) → Recalled c (reset_stream strict s)
unfolding reset_stream
whole_recalled strict c s = go s.items
  where
    go : (is : List Item) → half_sent_first (whole_head strict is) ≡ true → c ≡ some s.id
    go [] e = unfold whole_head in absurd (not_both (half_sent_first []) none_half e)
    go (i ∷ is) e = unfold whole_head in absurd (not_both (half_sent_first (model_whole_item strict i ∷ is)) (start_half (model_whole_item strict i) is refl) e)

reset_all : (strict : Bool) (c : Option ℕ) (ss : List Stream) → Every (Recalled c) (map (reset_stream strict) ss)
reset_all strict c [] = tt
reset_all strict c (s ∷ ss) = (whole_recalled strict c s, reset_all strict c ss)

recalls_reset : (q : Queue) → Recalls q → Recalls (Calls.reset q).next
unfolding Calls.reset
recalls_reset q a = recalls_checked (reset_checks q) q _ a (λ p. record { plain = a.plain; recalls = reset_all q.options.strict_restart _ q.streams })

-- ---- settings

recalls_set_threshold : (places k t : ℕ) (q : Queue) → Recalls q → Recalls (Calls.set_threshold places k t q).next
unfolding Calls.set_threshold
recalls_set_threshold places k t q a =
    let s : Stream = stream_at q k in
    recalls_checked (threshold_checks places k q) q (reply done (raised_event s t) (know q (with_threshold t s))) a
    (λ p. record { plain = a.plain; recalls = every_put stream_key (Recalled q.scheduler.current) (with_threshold t s) q.streams (recalled_at q k a) a.recalls })

recalls_set_priority : (k n : ℕ) (q : Queue) → Recalls q → Recalls (Calls.set_priority k n q).next
unfolding Calls.set_priority
recalls_set_priority k n q a =
    let s : Stream = stream_at q k in
    recalls_checked (priority_checks k q) q (reply done [] (know q (with_priority n s))) a
    (λ p. record { plain = a.plain; recalls = every_put stream_key (Recalled q.scheduler.current) (with_priority n s) q.streams (recalled_at q k a) a.recalls })

-- Interleaving is off, and stays so.
recalls_set_interleaving : (b : Bool) (q : Queue) → b ≡ false → Recalls q → Recalls (Calls.set_interleaving b q).next
unfolding Calls.set_interleaving same_bool
recalls_set_interleaving b q e a = subst (λ (x : Bool). Recalls (if x then q else switched b q)) (sym (ap₂ same_bool e a.plain)) a

-- ---- restoring

-- The half-sent heads of streams.
unfoldable pub half_of : Stream → ℕ
half_of s = if half_sent_first s.items then 1 else 0

abbrev pub halves : List Stream → ℕ
halves ss = sum_by (λ (s : Stream). half_of s) ss

half_none : (s : Stream) → s.items ≡ [] → half_of s ≡ 0
unfolding half_of
half_none s e = ap (λ (b : Bool). if b then 1 else 0) (ap half_sent_first e ∙ none_half)

-- A message put at a stream's end is its head only where there was none.
half_snoc : (now : ℕ) (r : MessageRecord) (is : List Item) → (if half_sent_first (is ++ (restored_item now r ∷ [])) then 1 else 0) ≤ (if half_sent_first is then 1 else 0) + half_sent_record r
unfolding half_sent_first half_sent_record restored_item
half_snoc now r [] = omega arith
half_snoc now r (i ∷ is) = omega arith

half_message : (now : ℕ) (r : MessageRecord) (s : Stream) → half_of (with_message s (restored_item now r)) ≤ half_of s + half_sent_record r
unfolding half_of
half_message now r s = half_snoc now r s.items

half_place : (o : Options) (now : ℕ) (r : MessageRecord) (ss : List Stream) → Rising stream_key ss → halves (restore_message o now r ss) ≤ halves ss + half_sent_record r
unfolding restore_message
half_place o now r ss a =
    let s : Stream = with_message (at o ss r.id) (restored_item now r) in
    let x = sum_put_at half_of o s ss a (half_none (new_stream o s.id) refl) in
    let y : half_of (at o ss s.id) ≡ half_of (at o ss r.id) = ap (λ (k : ℕ). half_of (at o ss k)) (at_id o ss r.id) in
    let z = half_message now r (at o ss r.id) in omega arith

half_places : (o : Options) (now : ℕ) (rs : List MessageRecord) (ss : List Stream) → Rising stream_key ss → halves (restore_messages o now rs ss) ≤ halves ss + half_sent_records rs
unfolding restore_messages restore_message
half_places o now [] ss a = omega arith
half_places o now (r ∷ rs) ss a =
    let x = half_place o now r ss a in
    let y = half_places o now rs (restore_message o now r ss) (rising_put stream_key (with_message (at o ss r.id) (restored_item now r)) ss a) in omega arith

half_streams : (o : Options) (rs : List StreamRecord) → halves (map (restored_stream o) rs) ≡ 0
unfolding restored_stream
half_streams o [] = refl
half_streams o (r ∷ rs) = let x = half_none (restored_stream o r) refl in let y = half_streams o rs in omega arith

no_halves : (ss : List Stream) → halves ss ≤ 0 → Every Whole ss
unfolding half_of
no_halves [] h = tt
no_halves (s ∷ ss) h = (go (half_sent_first s.items) refl, no_halves ss (omega arith))
  where
    go : (b : Bool) → half_sent_first s.items ≡ b → b ≡ true → ⊥
    go true e f = let x : ◌≡◌ {A = ℕ} (if half_sent_first s.items then 1 else 0) 1 = ap (λ (c : Bool). if c then 1 else 0) e in omega arith
    go false e f = let z : ◌≡◌ {A = ℕ} 0 1 = cc in omega arith

-- At most one half-sent head, and the first is remembered.
first_recalled : (ss : List Stream) → halves ss ≤ 1 → Every (Recalled (first_half_sent ss)) ss
unfolding first_half_sent half_of
first_recalled [] h = tt
first_recalled (s ∷ ss) h = go (half_sent_first s.items) refl (λ l. first_recalled ss l)
  where
    go : (b : Bool) → half_sent_first s.items ≡ b → (halves ss ≤ 1 → Every (Recalled (first_half_sent ss)) ss) → Every (Recalled (if b then some s.id else first_half_sent ss)) (s ∷ ss)
    go true e ih =
        let x : ◌≡◌ {A = ℕ} (if half_sent_first s.items then 1 else 0) 1 = ap (λ (c : Bool). if c then 1 else 0) e in
        ((λ y. refl), every_weaken Whole (Recalled (some s.id)) ss (λ t n y. absurd (n y)) (no_halves ss (omega arith)))
    go false e ih = ((λ y. absurd (not_both (half_sent_first s.items) e y)), ih (omega arith))

first_current : (il : Bool) (ss : List Stream) (sc : Scheduler) → il ≡ false → (remember_half_sent il ss sc).current ≡ first_half_sent ss
unfolding remember_half_sent
first_current true ss sc e = let z : ◌≡◌ {A = ℕ} 0 1 = cc in absurd (omega arith)
first_current false ss sc e = refl

recalls_restored : (now : ℕ) (h : Handover) (q : Queue) → Recalls q → Rising stream_key (restore_streams q.options h.streams) → half_sent_records h.messages ≤ 1 → Recalls (restored now h q)
unfolding restored restore_streams
recalls_restored now h q a r l =
    let o : Options = q.options in
    let ss : List Stream = restore_messages o now h.messages (map (restored_stream o) h.streams) in
    let x = half_places o now h.messages (map (restored_stream o) h.streams) r in
    let y = half_streams o h.streams in
    record {
      plain = a.plain;
      recalls = subst (λ (c : Option ℕ). Every (Recalled c) ss) (sym (first_current q.interleaving ss (reschedule_each q.interleaving has_items ss q.scheduler) a.plain)) (first_recalled ss (omega arith));
    }

restored_rising : (o : Options) (h : Handover) → Sound h → h.default_priority ≡ o.default_priority → Rising stream_key (restore_streams o h.streams)
unfolding handover_right restore_streams
restored_rising o h s e =
    let x : Bool = streams_right h.default_priority h.streams in let y : Bool = messages_right h.messages in
    let t : T (streams_right o.default_priority h.streams) = subst (λ (d : ℕ). T (streams_right d h.streams)) e (and_l x y s.sound_right) in
    (bases o 0 h.streams t s.sound_streams).bases_good.rising

recalls_restore : (store now : ℕ) (image : List ℕ) (q : Queue) → T (are_bytes image) → Recalls q → ((Restore.restore store now image q).outcome.answer ≡ done → AtMostOne (read_image image)) → Recalls (Restore.restore store now image q).next
recalls_restore store now image q b a u = subst (λ (x : Step). Recalls x.next) (sym (restore_of store now image q)) (recalls_checked (restore_checks store now q) q (restore_read now q (read_image image)) a (λ p. go p (read_image image) refl))
  where
    go : Passed (restore_checks store now q) → (x : Option Handover) → read_image image ≡ x → Recalls (restore_read now q x).next
    go p none e = subst (λ (x : Step). Recalls x.next) (sym (read_none now q)) a
    go p (some h) e = subst (λ (x : Step). Recalls x.next) (sym (read_some now q h)) (recalls_checked (record_checks now q h) q (reply done [] (restored now h q)) a (λ r.
        let accepted : Restore.restore store now image q ≡ reply done [] (restored now h q) =
        restore_of store now image q ∙ checked_past (restore_checks store now q) q (restore_read now q (read_image image)) p ∙ ap (restore_read now q) e ∙ read_some now q h
        ∙ checked_past (record_checks now q h) q (reply done [] (restored now h q)) r in
        let few : half_sent_records h.messages ≤ 1 = subst AtMostOne e (u (ap (λ (x : Step). x.outcome.answer) accepted)) in
        let d : Bool = eqb h.default_priority q.options.default_priority in
        recalls_restored now h q a (restored_rising q.options h (image_sound image h b e) (eqb→eq h.default_priority q.options.default_priority (holds d (not-false d r.1.0)))) few))

-- ---- every call

recalls_step : (c : Call) (q : Queue) → Typed c → Uninterrupted c q → Well q → Recalls q → Recalls (step c q).next
unfolding step
recalls_step (add store now m) q t u w a = recalls_add store now m q (kept_at q m.stream_id w t.1.1.stream_id) a
recalls_step (produce store places buffer now size) q t u w a = recalls_produce store places buffer now size q w a
recalls_step (fill store places buffer now p) q t u w a =
    (fill_keeps (λ q. Well q × Recalls q) (λ store places buffer now size q k. ((fine_produce store places buffer now size q k.0).next_well, recalls_produce store places buffer now size q k.0 k.1)) store places buffer now p q (w, a)).1
recalls_step (discard places s k) q t u w a = recalls_discard places s k q w a
recalls_step (close places s) q t u w a = recalls_close places s q (kept_at q s w t.1) w a
recalls_step ready_ids q t u w a = recalls_ready q a
recalls_step commit q t u w a = recalls_reopen true q w a
recalls_step rollback q t u w a = recalls_reopen false q w a
recalls_step reset q t u w a = recalls_reset q a
recalls_step (set_threshold places s n) q t u w a = recalls_set_threshold places s n q a
recalls_step (set_priority s p) q t u w a = recalls_set_priority s p q a
recalls_step (set_interleaving b) q t u w a = recalls_set_interleaving b q u a
recalls_step (restore store now image) q t u w a = recalls_restore store now image q t.1.1 a u
recalls_step (ask_priority s) q t u w a = a
recalls_step (ask_amount s) q t u w a = a
recalls_step (ask_threshold s) q t u w a = a
recalls_step ask_total q t u w a = a
recalls_step ask_empty q t u w a = a
recalls_step ask_has_data q t u w a = a
recalls_step ask_streams_ready q t u w a = a
recalls_step ask_ready_count q t u w a = a
recalls_step ask_readiness q t u w a = a
recalls_step (ask_room r) q t u w a = a

-- Such a queue is reachable, and remembers the stream whose head is half-sent.
pub never_reachable : {o : Options} {q : Queue} → NeverInterleaved o q → Reachable o q
never_reachable (at_first c) = created c
never_reachable (later n c t u) = called (never_reachable n) c t

pub never_recalls : {o : Options} {q : Queue} → NeverInterleaved o q → Recalls q
never_recalls (at_first c) = unfold new_queue in record { plain = refl; recalls = tt }
never_recalls (later {q = p} n c t u) = recalls_step c p t u (reachable_well (never_reachable n)) (never_recalls n)

-- Request 10/13's condition. (That the stream waits is not used here: a remembered stream waits, by `Well`.)
pub request10_remembered : Request10Remembered
unfolding Request10Remembered
request10_remembered o q k s n f h l =
    every_find stream_key (Recalled q.scheduler.current) k s q.streams (never_recalls n).recalls f h ∙ ap {B = Option ℕ} some (find_key stream_key k q.streams s f)

-- ---- "and send its rest first"

-- What restoring without interleaving remembers.
pub restored_first : (now : ℕ) (h : Handover) (q : Queue) → q.interleaving ≡ false → (restored now h q).scheduler.current ≡ first_half_sent (restored now h q).streams
unfolding restored
restored_first now h q e =
    let ss : List Stream = restore_messages q.options now h.messages (restore_streams q.options h.streams) in
    first_current q.interleaving ss (reschedule_each q.interleaving has_items ss q.scheduler) e

-- A remembered stream is chosen next.
pub record First (k : ℕ) (sc : Scheduler) : Type 0 where
  pub first_entry : Active
  pub first_chosen : peek sc ≡ some first_entry
  pub first_stream : first_entry.stream_id ≡ k

pub remembered_first : (q : Queue) (k : ℕ) → Well q → q.scheduler.current ≡ some k → First k q.scheduler
unfolding peek or_else remembered
remembered_first q k w e =
    let sc : Scheduler = q.scheduler in
    let h : Remembers (some k) sc.active = subst (λ (x : Option ℕ). Remembers x sc.active) e w.waits.sched.remembers in
    record {
      first_entry = h.0;
      first_chosen = ap (λ (x : Option ℕ). or_else (remembered x sc.active) (least_of sc.active)) e ∙ ap (λ (x : Option Active). or_else x (least_of sc.active)) h.1;
      first_stream = find_key active_key k sc.active h.0 h.1;
    }
