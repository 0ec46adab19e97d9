-- The account of request 11/13, first half, on the model: every call balances, so a stream's amount is what came in less what went out. Assumes nothing.
use mathlib.Core.Path.{◌≡◌, refl, sym, ap, ap₂, ◌∙◌, subst}
use mathlib.Core.Bool.{Bool, true, false, not}
use mathlib.Core.List.{List, [], ◌∷◌, ◌++◌, map}
use mathlib.Core.Option.{Option, none, some, get_or}
use Prim.Native.Nat.{ℕ, zero, suc, ◌+◌, ◌-◌, ◌≤◌, min}
use native.Mathlib.Omega.{arith}
use lib.Dec.{ltb, eqb}
use lib.ListN.{length, take, drop, length-take, length-drop}
use borrow.Author.Tests.{not-false}
use Rattle.types.specs.Wrap.{wrap_suc}
use Rattle.std.specs.Prelude.{if◌then◌else◌}
use Rattle.queue_model.specs.Logic.{same_bool, is_nil}
use Rattle.queue_model.specs.Table.{find}
use Rattle.queue_model.specs.Types.{Item, PauseState, not_paused, pending, paused, resetting, Stream, Active, Scheduler, Options, Queue, Event, Fragment, Packet, Answer, refused, done, fragment, Step, remaining, expired, with_items, model_with_pause, with_threshold, with_priority, with_state, refuse, reply, Message}
use Rattle.queue_model.specs.Scheduler.{peek, remove_stream}
use Rattle.queue_model.specs.Streams.{find_stream, put_stream, new_stream, stream_at, waiting, head_size, know, new_queue, stream_key, has_items, reschedule_each, at, with_message, reschedule}
use Rattle.queue_model.specs.Refusals.{Check, first_refusal, short_of, refused_or, checked, short_of_head}
use Rattle.queue_model.specs.Amounts.{drop_head_events, sent_events}
use Rattle.queue_model.specs.Add.{added, add_checks, new_item, started}
use Rattle.queue_model.specs.Produce.{Head, head_of, drop_head, drop_in, Look, nothing, broken, dropped, chosen, look_at, look, numbered, handed_out_last, handed_out_part, handed_out, hand_out, pass_over, make_fragment, after_look, look_expired, look_for, produce_checks}
use Rattle.queue_model.specs.Fill.{Filling, no_calls, common_header_length, filling, filled_with, fill_checks}
use Rattle.queue_model.specs.Discard.{discard_at, discard_checks, discarded}
use Rattle.queue_model.specs.Close.{swept_bytes, closed, closing_bytes, close_checks, close_in, closed_scheduler, closed_state, kept}
use Rattle.queue_model.specs.Reset.{reopen, paused_to_resetting, reopened, model_put_back, reset_stream, all_put_back, reset_checks}
use Rattle.queue_model.specs.Settings.{priority_checks, raised_event, threshold_checks, switched}
use Rattle.queue_model.specs.Questions.{amount_of}
use Rattle.queue_model.specs.Image.{MessageRecord, StreamRecord, Handover}
use Rattle.queue_model.specs.Reader.{read_image}
use Rattle.queue_model.specs.Restore.{restored_stream, restored_item, restore_streams, restore_message, restore_messages, restored, record_checks, restore_checks, restore_read}
use Rattle.queue_model.specs.Run.{Call, add, produce, fill, discard, close, ready_ids, commit, rollback, reset, set_threshold, set_priority, set_interleaving, restore, ask_priority, ask_amount, ask_threshold, ask_total, ask_empty, ask_has_data, ask_streams_ready, ask_ready_count, ask_readiness, ask_room, step, after}
use Rattle.queue_model.specs.Demands.{AllTyped}
use Rattle.queue_model.specs.Account.{Account, no_bytes, for_stream, unless_refused, handed, choice_bytes, choices_bytes, passed, head_bytes, records_left, image_left, produce_account, fill_account, none_refused, account, accounts, Request11Account}
use Rattle.queue_model.specs.Passing.{passing_after, passing}
use Rattle.queue_model.proofs.Tests.{eqb_true, eqb_false, less, same, more, tri}
use Rattle.queue_model.proofs.Table.{find_here, find_there, find_put_same, find_put_other, find_key, Every}
use Rattle.queue_model.proofs.Checks.{or_left, or_right, nil_of, Passed, not_less, all_passed, restore_of}
use Rattle.queue_model.proofs.Streams.{at_found, at_new, at_id, every_at, head_size_cons}
use Rattle.queue_model.proofs.Invariant.Well.{Well, well_new}
use Rattle.queue_model.proofs.Invariant.Fine.{reopened_alike, paused_alike, Alike}
use Rattle.queue_model.proofs.Invariant.Sends.{head_of_at, head_kept, head_well, numbers_well, headless, headed, heads, FineLook, fine_look, fine_produce}
use Rattle.queue_model.proofs.Fill.Calls.{fill_induct}
use Rattle.queue_model.proofs.Invariant.Sixteen.{fine_step}
use Rattle.queue_model.proofs.Calm.Calm.{HeadAt}
use Rattle.queue_model.proofs.Demand3.Restored.{restore_message_of, restore_messages_cons, restore_messages_nil, with_restored}
use Rattle.queue_model.specs.Calls
use Rattle.queue_model.specs.Restore

-- ---- one stream's amount after putting a stream

abbrev amount_at : Options → List Stream → ℕ → ℕ
amount_at o ss k = (at o ss k).amount

pub for_own : (k s n : ℕ) → s ≡ k → for_stream k s n ≡ n
unfolding for_stream
for_own k s n e = ap (λ (b : Bool). if b then n else 0) (eqb_true e)

pub for_other : (k s n : ℕ) → (s ≡ k → ⊥) → for_stream k s n ≡ 0
unfolding for_stream
for_other k s n e = ap (λ (b : Bool). if b then n else 0) (eqb_false e)

for_none : (k s : ℕ) → for_stream k s 0 ≡ 0
unfolding for_stream
for_none k s = go (eqb s k)
  where
    go : (b : Bool) → ◌≡◌ {A = ℕ} (if b then 0 else 0) 0
    go true = refl
    go false = refl

-- A stream of id j that takes n bytes less and m bytes more.
amount_change : (o : Options) (s : Stream) (ss : List Stream) (j k n m : ℕ) → s.id ≡ j → s.amount + n ≡ amount_at o ss j + m → amount_at o (put_stream s ss) k + for_stream k j n ≡ amount_at o ss k + for_stream k j m
amount_change o s ss j k n m i e = elim (tri j k) [
  | less l ↦ other (λ g. omega arith)
  | same g ↦ (let a : amount_at o (put_stream s ss) k ≡ s.amount = ap (λ (x : Stream). x.amount) (at_found o (put_stream s ss) k s (ap (λ (x : ℕ). find_stream x (put_stream s ss)) (sym (i ∙ g)) ∙ find_put_same stream_key s ss)) in
      let b : amount_at o ss j ≡ amount_at o ss k = ap (amount_at o ss) g in
      let c = for_own k j n g in let d = for_own k j m g in omega arith)
  | more l ↦ other (λ g. omega arith)
]
  where
    other : (j ≡ k → ⊥) → amount_at o (put_stream s ss) k + for_stream k j n ≡ amount_at o ss k + for_stream k j m
    other f =
        let a : amount_at o (put_stream s ss) k ≡ amount_at o ss k = ap (λ (x : Option Stream). (get_or x (new_stream o k)).amount) (find_put_other stream_key k s ss (λ g. f (sym i ∙ g))) in
        let c = for_other k j n f in let d = for_other k j m f in omega arith

amount_same : (o : Options) (s : Stream) (ss : List Stream) (j k : ℕ) → s.id ≡ j → s.amount ≡ amount_at o ss j → amount_at o (put_stream s ss) k ≡ amount_at o ss k
amount_same o s ss j k i e = let a = amount_change o s ss j k 0 0 i (omega arith) in omega arith

-- ---- a balanced step

-- Bytes in and out of stream k, as functions of the answer.
record Balances (k : ℕ) (q : Queue) (out into : Answer → ℕ) (s : Step) : Type 0 where
  balance : amount_of s.next k + out s.outcome.answer ≡ amount_of q k + into s.outcome.answer

balances_refused : (k : ℕ) (q : Queue) (out into : Answer → ℕ) → ((r : ℕ) → out (refused r) ≡ 0) → ((r : ℕ) → into (refused r) ≡ 0) → (r : ℕ) → Balances k q out into (refuse q r)
balances_refused k q out into x y r = let a = x r in let b = y r in record { balance = omega arith }

balances_checked : (k : ℕ) (cs : List Check) (q : Queue) (s : Step) (out into : Answer → ℕ) → ((r : ℕ) → out (refused r) ≡ 0) → ((r : ℕ) → into (refused r) ≡ 0) → (Passed cs → Balances k q out into s) → Balances k q out into (checked cs q s)
unfolding checked refused_or
balances_checked k cs q s out into x y h = go (first_refusal cs) refl
  where
    go : (o : Option ℕ) → first_refusal cs ≡ o → Balances k q out into (refused_or o q s)
    go none e = h (all_passed cs e)
    go (some r) e = balances_refused k q out into x y r

balances_either : (k : ℕ) (q : Queue) (out into : Answer → ℕ) (b : Bool) (s t : Step) → (b ≡ true → Balances k q out into s) → (b ≡ false → Balances k q out into t) → Balances k q out into (if b then s else t)
balances_either k q out into true s t x y = x refl
balances_either k q out into false s t x y = y refl

none_moves : Answer → ℕ
none_moves a = 0

nothing_moves : (a : Answer) → none_moves a ≡ 0
unfolding none_moves
nothing_moves a = refl

-- A step after which the amount is the same and no bytes are counted.
balances_same : (k : ℕ) (q : Queue) (s : Step) → amount_of s.next k ≡ amount_of q k → Balances k q none_moves none_moves s
balances_same k q s e = let z = nothing_moves s.outcome.answer in record { balance = omega arith }

-- ---- add

put_amount : (q : Queue) (il : Bool) (t n' : ℕ) (sc : Scheduler) (s : Stream) (j k n m : ℕ) → s.id ≡ j → s.amount + n ≡ amount_at q.options q.streams j + m
    → amount_of (record { options = q.options; interleaving = il; total = t; next_message_id = n'; streams = put_stream s q.streams; scheduler = sc }) k + for_stream k j n ≡ amount_of q k + for_stream k j m
unfolding amount_of
put_amount q il t n' sc s j k n m i e = amount_change q.options s q.streams j k n m i e

added_amount : (k now : ℕ) (m : Message) (q : Queue) → amount_of (added now m q) k ≡ amount_of q k + for_stream k m.stream_id (length m.payload)
unfolding added
added_amount k now m q =
    let s : Stream = at q.options q.streams m.stream_id in
    let s' : Stream = with_message s (new_item now q.next_message_id m) in
    let a = put_amount q q.interleaving (q.total + length m.payload) (wrap_suc 32 q.next_message_id) (started q.interleaving s s' q.scheduler) s' m.stream_id k 0 (length m.payload) (at_id q.options q.streams m.stream_id) (omega arith) in
    let z = for_none k m.stream_id in omega arith

balances_add : (k store now : ℕ) (m : Message) (q : Queue) → Balances k q none_moves (λ a. unless_refused a (for_stream k m.stream_id (length m.payload))) (Calls.add store now m q)
unfolding Calls.add
balances_add k store now m q =
    balances_checked k (add_checks store now m q) q (reply done [] (added now m q)) none_moves (λ a. unless_refused a (for_stream k m.stream_id (length m.payload))) (λ r. nothing_moves (refused r)) (λ r. refl)
    (λ p. let z = nothing_moves done in let e = added_amount k now m q in record { balance = omega arith })

-- ---- a head that loses bytes

lost : (q : Queue) (il : Bool) (t n' : ℕ) (sc : Scheduler) (s s' : Stream) (j k n : ℕ) → at q.options q.streams j ≡ s → s'.id ≡ j → s'.amount ≡ s.amount - n → n ≤ s.amount
    → amount_of (record { options = q.options; interleaving = il; total = t; next_message_id = n'; streams = put_stream s' q.streams; scheduler = sc }) k + for_stream k j n ≡ amount_of q k
lost q il t n' sc s s' j k n e i a h =
    let b : amount_at q.options q.streams j ≡ s.amount = ap (λ (x : Stream). x.amount) e in
    let c = put_amount q il t n' sc s' j k n 0 i (omega arith) in let z = for_none k j in omega arith

not_short_amount : (q : Queue) (s : Stream) (n : ℕ) → short_of q s n ≡ false → n ≤ s.amount
unfolding short_of
not_short_amount q s n e = not_less s.amount n (or_right (ltb q.total n) (ltb s.amount n) e)

module _ (q : Queue) (j k : ℕ) (s : Stream) (i : Item) (is : List Item) (h : HeadAt q.streams j s i is) where
  at_head : at q.options q.streams j ≡ s
  at_head = at_found q.options q.streams j s h.found

  head_is : s.id ≡ j
  head_is = find_key stream_key j q.streams s h.found

  drop_amount : remaining i ≤ s.amount → amount_of (drop_head q s i is) k + for_stream k j (remaining i) ≡ amount_of q k
  unfolding drop_head
  drop_amount l = lost q q.interleaving (q.total - remaining i) q.next_message_id (reschedule q.interleaving (with_items s (s.amount - remaining i) is) q.scheduler) s (with_items s (s.amount - remaining i) is) j k (remaining i) at_head head_is refl l

  drop_in_amount : (p : PauseState) → remaining i ≤ s.amount → amount_of (drop_in p q s i is) k + for_stream k j (remaining i) ≡ amount_of q k
  unfolding drop_in
  drop_in_amount not_paused l = drop_amount l
  drop_in_amount pending l =
      lost q q.interleaving (q.total - remaining i) q.next_message_id (remove_stream s.id q.scheduler) s (model_with_pause paused (with_items s (s.amount - remaining i) is)) j k (remaining i) at_head head_is refl l
  drop_in_amount paused l = drop_amount l
  drop_in_amount resetting l = drop_amount l

  handed_amount : (a : Active) (n : ℕ) → n ≤ s.amount → amount_of (handed_out q a s i is n) k + for_stream k j n ≡ amount_of q k
  unfolding handed_out handed_out_last handed_out_part
  handed_amount a n l = go (eqb n (remaining i))
    where
      go : (b : Bool) → amount_of (if b then handed_out_last q a s i is n else handed_out_part q a s i is n) k + for_stream k j n ≡ amount_of q k
      go true = lost q q.interleaving (q.total - n) q.next_message_id _ s _ j k n at_head head_is refl l
      go false = lost q q.interleaving (q.total - n) q.next_message_id _ s _ j k n at_head head_is refl l

-- ---- discard

head_hit : (m : ℕ) (i : Item) (is : List Item) → eqb i.message_id m ≡ true → head_bytes m (i ∷ is) ≡ remaining i
unfolding head_bytes
head_hit m i is e = ap (λ (b : Bool). if b then remaining i else 0) e

head_miss : (m : ℕ) (i : Item) (is : List Item) → eqb i.message_id m ≡ false → head_bytes m (i ∷ is) ≡ 0
unfolding head_bytes
head_miss m i is e = ap (λ (b : Bool). if b then remaining i else 0) e

no_head_bytes : (m : ℕ) (is : List Item) → is ≡ [] → head_bytes m is ≡ 0
unfolding head_bytes
no_head_bytes m is e = ap (head_bytes m) e

-- What a discard of message m on stream j drops, by the answer.
abbrev discards : ℕ → ℕ → ℕ → Queue → Answer → ℕ
discards k j m q a = unless_refused a (for_stream k j (head_bytes m (stream_at q j).items))

discarded_balances : (k j m : ℕ) (q : Queue) (s : Stream) (i : Item) (is : List Item) → HeadAt q.streams j s i is → eqb i.message_id m ≡ true → Balances k q (discards k j m q) none_moves (discarded q s i is)
unfolding discarded
discarded_balances k j m q s i is h e =
    balances_either k q (discards k j m q) none_moves (short_of q s (remaining i)) (refuse q 16) (reply done (drop_head_events q s i) (drop_in s.pause_state q s i is))
    (λ f. balances_refused k q (discards k j m q) none_moves (λ r. refl) (λ r. nothing_moves (refused r)) 16)
    (λ f. let z = nothing_moves done in
    let its : (at q.options q.streams j).items ≡ i ∷ is = ap (λ (x : Stream). x.items) (at_found q.options q.streams j s h.found) ∙ h.items in
    let c : for_stream k j (head_bytes m (at q.options q.streams j).items) ≡ for_stream k j (remaining i) = ap (for_stream k j) (ap (head_bytes m) its ∙ head_hit m i is e) in
    let d = drop_in_amount q j k s i is h s.pause_state (not_short_amount q s (remaining i) f) in record { balance = omega arith })

-- A discard that finds no message to drop.
kept_balances : (k j m : ℕ) (q : Queue) → head_bytes m (at q.options q.streams j).items ≡ 0 → Balances k q (discards k j m q) none_moves (reply done [] q)
kept_balances k j m q e = let z = nothing_moves done in let c : for_stream k j (head_bytes m (at q.options q.streams j).items) ≡ 0 = ap (for_stream k j) e ∙ for_none k j in record { balance = omega arith }

balances_discard_at : (k j m : ℕ) (q : Queue) → Balances k q (discards k j m q) none_moves (discard_at m q (head_of (find_stream j q.streams)))
unfolding discard_at
balances_discard_at k j m q = elim (heads q.streams j) [
  | headless e n ↦ subst (λ (x : Head). Balances k q (discards k j m q) none_moves (discard_at m q x)) (sym e) (kept_balances k j m q (no_head_bytes m (at q.options q.streams j).items (n q.options)))
  | headed s i is h ↦ subst (λ (x : Head). Balances k q (discards k j m q) none_moves (discard_at m q x)) (sym (head_of_at q.streams j s i is h))
      (balances_either k q (discards k j m q) none_moves (eqb i.message_id m) (discarded q s i is) (reply done [] q) (discarded_balances k j m q s i is h)
      (λ e. kept_balances k j m q (ap (head_bytes m) (ap (λ (x : Stream). x.items) (at_found q.options q.streams j s h.found) ∙ h.items) ∙ head_miss m i is e)))
]

balances_discard : (k places j m : ℕ) (q : Queue) → Balances k q (discards k j m q) none_moves (Calls.discard places j m q)
unfolding Calls.discard
balances_discard k places j m q =
    balances_checked k (discard_checks places) q (discard_at m q (head_of (find_stream j q.streams))) (discards k j m q) none_moves (λ r. refl) (λ r. nothing_moves (refused r)) (λ p. balances_discard_at k j m q)

-- ---- next fragment

-- A look that drops: the choice's bytes leave.
abbrev LookBalances : ℕ → Queue → Look → Type 0
LookBalances k q nothing = Unit {0}
LookBalances k q broken = Unit {0}
LookBalances k q (dropped r ds) = amount_of r k + choice_bytes k q (peek q.scheduler) ≡ amount_of q k
LookBalances k q (chosen a s i is) = Unit {0}

choice_some : (k : ℕ) (q : Queue) (a : Active) → choice_bytes k q (some a) ≡ for_stream k a.stream_id (head_size (at q.options q.streams a.stream_id).items)
unfolding choice_bytes
choice_some k q a = refl

look_balances : (k now : ℕ) (q : Queue) → LookBalances k q (look now q)
unfolding look look_for look_at look_expired
look_balances k now q = go (peek q.scheduler) refl
  where
    drops : (a : Active) → peek q.scheduler ≡ some a → (x y : Bool) (s : Stream) (i : Item) (is : List Item) → HeadAt q.streams a.stream_id s i is → short_of q s (remaining i) ≡ y
        → LookBalances k q (if x then (if y then broken else dropped (drop_in s.pause_state q s i is) (drop_head_events q s i)) else chosen a s i is)
    drops a e true true s i is h f = tt
    drops a e true false s i is h f =
        let c : choice_bytes k q (peek q.scheduler) ≡ for_stream k a.stream_id (remaining i) = ap (choice_bytes k q) e ∙ choice_some k q a
        ∙ ap (λ (x : Stream). for_stream k a.stream_id (head_size x.items)) (at_found q.options q.streams a.stream_id s h.found) ∙ ap (λ (l : List Item). for_stream k a.stream_id (head_size l)) h.items ∙ ap (for_stream k a.stream_id) (head_size_cons i is) in
        let d = drop_in_amount q a.stream_id k s i is h s.pause_state (not_short_amount q s (remaining i) f) in omega arith
    drops a e false y s i is h f = tt

    at_one : (a : Active) → peek q.scheduler ≡ some a → LookBalances k q (look_at now q a (head_of (find_stream a.stream_id q.streams)))
    at_one a e = elim (heads q.streams a.stream_id) [
      | headless f n ↦ subst (λ (x : Head). LookBalances k q (look_at now q a x)) (sym f) tt
      | headed s i is h ↦ subst (λ (x : Head). LookBalances k q (look_at now q a x)) (sym (head_of_at q.streams a.stream_id s i is h)) (drops a e (expired now i.expires_at) (short_of q s (remaining i)) s i is h refl)
    ]

    go : (x : Option Active) → peek q.scheduler ≡ x → LookBalances k q (look_for now q x)
    go none e = tt
    go (some a) e = at_one a e

-- Passing over drops n bytes of stream k, and hands out what the answer says.
record Sends (k : ℕ) (q : Queue) (n : ℕ) (s : Step) : Type 0 where
  answered : (m : ℕ) → unless_refused s.outcome.answer m ≡ m
  sends : amount_of s.next k + (handed k s.outcome.answer + n) ≡ amount_of q k

abbrev SendsMaybe : ℕ → Queue → ℕ → Option Step → Type 0
SendsMaybe k q n none = Unit {0}
SendsMaybe k q n (some s) = Sends k q n s

head_long : (q : Queue) (s : Stream) (i : Item) (n : ℕ) → short_of_head q s i n ≡ false → short_of q s n ≡ false
unfolding short_of_head
head_long q s i n e = or_left (short_of q s n) (ltb (remaining i) n) e

sends_hand_out : (k size : ℕ) (q : Queue) (es : List Event) (a : Active) (s : Stream) (i : Item) (is : List Item) → Well q → FineLook q (chosen a s i is) → SendsMaybe k q 0 (hand_out size q es a s i is)
unfolding hand_out make_fragment
sends_hand_out k size q es a s i is w v = go (short_of_head q s i (min a.bytes_remaining size)) refl
  where
    n : ℕ
    n = min a.bytes_remaining size

    j : Item
    j = (numbered s.counters i).item

    go : (b : Bool) → short_of_head q s i (min a.bytes_remaining size) ≡ b → SendsMaybe k q 0 (if b then none else some (reply (fragment (make_fragment s j n)) (es ++ sent_events q s n) (handed_out q a s i is n)))
    go true e = tt
    go false e =
        let l = not_short_amount q s (min a.bytes_remaining size) (head_long q s i (min a.bytes_remaining size) e) in
        let h = v.choice_head in let z = v.choice_size in
        let u = numbers_well s.counters i (head_kept q a.stream_id s i is w h).counters_fit (head_well q a.stream_id s i is w h).0 in
        let x : length j.payload ≡ length i.payload = ap length u.payload_same in let y = u.offset_same in
        let t₁ = length-take (min a.bytes_remaining size) (drop j.offset j.payload) in let t₂ = length-drop j.offset j.payload in
        let t : length (take (min a.bytes_remaining size) (drop j.offset j.payload)) ≡ min a.bytes_remaining size = omega arith in
        let f : for_stream k s.id (length (take (min a.bytes_remaining size) (drop j.offset j.payload))) ≡ for_stream k a.stream_id (min a.bytes_remaining size) = ap₂ (for_stream k) (find_key stream_key a.stream_id q.streams s h.found) t in
        let d = handed_amount q a.stream_id k s i is h a (min a.bytes_remaining size) l in
        record { answered = λ m. refl; sends = omega arith }

-- What follows a look, if what follows a drop is right.
sends_after : (k size : ℕ) (q : Queue) (es : List Event) → Well q → (rest : Queue → List Queue) (again : Queue → List Event → Option Step) (l : Look) → FineLook q l → LookBalances k q l → ((r : Queue) (ds : List Event) → Well r → SendsMaybe k r (choices_bytes k (rest r)) (again r ds))
    → SendsMaybe k q (choices_bytes k (passing_after q rest l)) (after_look again size q es l)
unfolding passing_after choices_bytes after_look
sends_after k size q es w rest again nothing v b ih = record { answered = λ m. refl; sends = omega arith }
sends_after k size q es w rest again broken v b ih = tt
sends_after k size q es w rest again (dropped r ds) v b ih = chain (again r (es ++ ds)) (ih r (es ++ ds) v.0)
  where
    chain : (x : Option Step) → SendsMaybe k r (choices_bytes k (rest r)) x → SendsMaybe k q (choice_bytes k q (peek q.scheduler) + choices_bytes k (rest r)) x
    chain none u = tt
    chain (some s) u = let e = u.sends in record { answered = u.answered; sends = omega arith }
sends_after k size q es w rest again (chosen a s i is) v b ih = sends_hand_out k size q es a s i is w v

sends_pass : (k f now size : ℕ) (q : Queue) (es : List Event) → Well q → SendsMaybe k q (passed k f now q) (pass_over f now size q es)
unfolding pass_over passed passing
sends_pass k zero now size q es w = tt
sends_pass k (suc f) now size q es w = sends_after k size q es w (λ (r : Queue). passing f now r) (λ (r : Queue) (ds : List Event). pass_over f now size r ds) (look now q) (fine_look now q w) (look_balances k now q) (λ r ds v. sends_pass k f now size r ds v)

-- What the next fragment takes out, by the answer.
abbrev goes_out : ℕ → ℕ → Queue → Answer → ℕ
goes_out k now q a = handed k a + unless_refused a (passed k (suc (waiting q.streams)) now q)

balances_default : (k now : ℕ) (q : Queue) (x : Option Step) → SendsMaybe k q (passed k (suc (waiting q.streams)) now q) x → Balances k q (goes_out k now q) none_moves (get_or x (refuse q 16))
balances_default k now q none v = balances_refused k q (goes_out k now q) none_moves (λ r. omega arith) (λ r. nothing_moves (refused r)) 16
balances_default k now q (some s) v = let a = v.answered (passed k (suc (waiting q.streams)) now q) in let b = v.sends in let z = nothing_moves s.outcome.answer in record { balance = omega arith }

balances_produce : (k store places buffer now size : ℕ) (q : Queue) → Well q → Balances k q (goes_out k now q) none_moves (Calls.produce store places buffer now size q)
unfolding Calls.produce
balances_produce k store places buffer now size q w =
    balances_checked k (produce_checks store places buffer now size q) q (get_or (pass_over (suc (waiting q.streams)) now size q []) (refuse q 16)) (goes_out k now q) none_moves (λ r. omega arith) (λ r. nothing_moves (refused r))
    (λ p. balances_default k now q (pass_over (suc (waiting q.streams)) now size q []) (sends_pass k (suc (waiting q.streams)) now size q [] w))

-- ---- close

-- What closing stream j drops, by the answer.
abbrev closes : ℕ → ℕ → Queue → Answer → ℕ
closes k j q a = unless_refused a (for_stream k j (closing_bytes (at q.options q.streams j).pause_state (at q.options q.streams j).items))

know_amount : (q : Queue) (s : Stream) (j k : ℕ) → s.id ≡ j → s.amount ≡ amount_at q.options q.streams j → amount_of (know q s) k ≡ amount_of q k
unfolding amount_of
know_amount q s j k i e = amount_same q.options s q.streams j k i e

module _ (q : Queue) (j k : ℕ) (s : Stream) (is_at : at q.options q.streams j ≡ s) where
  close_id : s.id ≡ j
  close_id = ap (λ (x : Stream). x.id) (sym is_at) ∙ at_id q.options q.streams j

  closed_amount : swept_bytes s.items ≤ s.amount → Balances k q (λ a. unless_refused a (for_stream k j (swept_bytes s.items))) none_moves (closed q s)
  unfolding closed
  closed_amount h =
      let n : ℕ = swept_bytes s.items in let l : List Item = kept s.items in let z = nothing_moves done in
      let a = lost q q.interleaving (q.total - n) q.next_message_id (closed_scheduler s l q.scheduler) s (model_with_pause (closed_state l) (with_items s (s.amount - n) l)) j k n is_at close_id refl h in
      record { balance = omega arith }

  known_balances : Balances k q (λ a. unless_refused a (for_stream k j 0)) none_moves (reply done [] q)
  known_balances = let z = nothing_moves done in let y = for_none k j in record { balance = omega arith }

  state_balances : (p : PauseState) → closing_bytes p s.items ≤ s.amount → Balances k q (λ a. unless_refused a (for_stream k j (closing_bytes p s.items))) none_moves (close_in p q s)
  unfolding close_in closing_bytes
  state_balances not_paused h = closed_amount h
  state_balances pending h = known_balances
  state_balances paused h = known_balances
  state_balances resetting h = known_balances

balances_close : (k places j : ℕ) (q : Queue) → Balances k q (closes k j q) none_moves (Calls.close places j q)
unfolding Calls.close
balances_close k places j q =
    let s : Stream = at q.options q.streams j in
    balances_checked k (close_checks places j q) q (close_in s.pause_state q s) (closes k j q) none_moves (λ r. refl) (λ r. nothing_moves (refused r))
    (λ p. state_balances q j k s refl s.pause_state (not_short_amount q s (closing_bytes s.pause_state s.items) p.1.1.0))

-- ---- all streams mapped

-- A map that adds g bytes to each stream.
amount_map : (f : Stream → Stream) (g : Stream → ℕ) (o : Options) (k : ℕ) (ss : List Stream) → ((s : Stream) → (f s).id ≡ s.id) → ((s : Stream) → (f s).amount ≡ s.amount + g s) → g (new_stream o k) ≡ 0 → amount_at o (map f ss) k ≡ amount_at o ss k + g (at o ss k)
amount_map f g o k [] i h z =
    let e = at_new o [] k (unfold find in refl) in
    let a : amount_at o [] k ≡ 0 = ap (λ (s : Stream). s.amount) e in let b : g (at o [] k) ≡ 0 = ap g e ∙ z in omega arith
amount_map f g o k (s ∷ ss) i h z = elim (tri s.id k) [
  | less l ↦ rest (amount_map f g o k ss i h z) (λ e. omega arith)
  | same e ↦ (let a : amount_at o (f s ∷ map f ss) k ≡ (f s).amount = ap (λ (x : Stream). x.amount) (at_found o (f s ∷ map f ss) k (f s) (find_here stream_key k (f s) (map f ss) (i s ∙ e))) in
      let b = at_found o (s ∷ ss) k s (find_here stream_key k s ss e) in
      let c : amount_at o (s ∷ ss) k ≡ s.amount = ap (λ (x : Stream). x.amount) b in let d : g (at o (s ∷ ss) k) ≡ g s = ap g b in let u = h s in omega arith)
  | more l ↦ rest (amount_map f g o k ss i h z) (λ e. omega arith)
]
  where
    rest : amount_at o (map f ss) k ≡ amount_at o ss k + g (at o ss k) → (s.id ≡ k → ⊥) → amount_at o (f s ∷ map f ss) k ≡ amount_at o (s ∷ ss) k + g (at o (s ∷ ss) k)
    rest ih n =
        let a : amount_at o (f s ∷ map f ss) k ≡ amount_at o (map f ss) k = ap (λ (x : Option Stream). (get_or x (new_stream o k)).amount) (find_there stream_key k (f s) (map f ss) (λ e. n (sym (i s) ∙ e))) in
        let b : at o (s ∷ ss) k ≡ at o ss k = ap (λ (x : Option Stream). get_or x (new_stream o k)) (find_there stream_key k s ss n) in
        let c : amount_at o (s ∷ ss) k ≡ amount_at o ss k = ap (λ (x : Stream). x.amount) b in let d : g (at o (s ∷ ss) k) ≡ g (at o ss k) = ap g b in omega arith

-- A map that keeps every amount.
amount_alike : (f : Stream → Stream) (o : Options) (k : ℕ) (ss : List Stream) → ((s : Stream) → Alike s (f s)) → amount_at o (map f ss) k ≡ amount_at o ss k
amount_alike f o k ss h = let a = amount_map f (λ s. 0) o k ss (λ s. (h s).alike_id) (λ s. let e = (h s).alike_amount in omega arith) refl in omega arith

ready_amount : (k : ℕ) (q : Queue) → amount_of (Calls.ready_ids q).next k ≡ amount_of q k
unfolding Calls.ready_ids amount_of
ready_amount k q = amount_alike paused_to_resetting q.options k q.streams paused_alike

reopen_amount : (k : ℕ) (z : Bool) (q : Queue) → amount_of (reopen z q).next k ≡ amount_of q k
unfolding reopen amount_of
reopen_amount k z q = amount_alike (reopened z) q.options k q.streams (reopened_alike z)

pub no_put_back : model_put_back [] ≡ 0
unfolding model_put_back
no_put_back = refl

abbrev puts_back : ℕ → Queue → Answer → ℕ
puts_back k q a = unless_refused a (model_put_back (at q.options q.streams k).items)

reset_amount : (b : Bool) (o : Options) (k : ℕ) (ss : List Stream) → amount_at o (map (reset_stream b) ss) k ≡ amount_at o ss k + model_put_back (at o ss k).items
unfolding reset_stream
reset_amount b o k ss = amount_map (reset_stream b) (λ s. model_put_back s.items) o k ss (λ s. refl) (λ s. refl) no_put_back

balances_reset : (k : ℕ) (q : Queue) → Balances k q none_moves (puts_back k q) (Calls.reset q)
unfolding Calls.reset amount_of
balances_reset k q =
    let ss : List Stream = map (reset_stream q.options.strict_restart) q.streams in
    balances_checked k (reset_checks q) q (reply done [] (with_state q (q.total + all_put_back q.streams) ss (reschedule_each q.interleaving has_items ss q.scheduler))) none_moves (puts_back k q)
    (λ r. nothing_moves (refused r)) (λ r. refl) (λ p. let a = reset_amount q.options.strict_restart q.options k q.streams in let z = nothing_moves done in record { balance = omega arith })

-- ---- streams that are only made known, and the interleaving choice

threshold_balances : (k places j t : ℕ) (q : Queue) → Balances k q none_moves none_moves (Calls.set_threshold places j t q)
unfolding Calls.set_threshold
threshold_balances k places j t q =
    let s : Stream = at q.options q.streams j in
    let x : Step = reply done (raised_event s t) (know q (with_threshold t s)) in
    balances_checked k (threshold_checks places j q) q x none_moves none_moves (λ r. nothing_moves (refused r)) (λ r. nothing_moves (refused r))
    (λ p. balances_same k q x (know_amount q (with_threshold t s) j k (at_id q.options q.streams j) refl))

priority_balances : (k j p : ℕ) (q : Queue) → Balances k q none_moves none_moves (Calls.set_priority j p q)
unfolding Calls.set_priority
priority_balances k j p q =
    let x : Step = reply done [] (know q (with_priority p (at q.options q.streams j))) in
    balances_checked k (priority_checks j q) q x none_moves none_moves (λ r. nothing_moves (refused r)) (λ r. nothing_moves (refused r))
    (λ c. balances_same k q x (know_amount q (with_priority p (at q.options q.streams j)) j k (at_id q.options q.streams j) refl))

interleaving_balances : (k : ℕ) (b : Bool) (q : Queue) → Balances k q none_moves none_moves (Calls.set_interleaving b q)
unfolding Calls.set_interleaving amount_of
interleaving_balances k b q = balances_same k q (reply done [] (if same_bool b q.interleaving then q else switched b q)) (go (same_bool b q.interleaving))
  where
    go : (x : Bool) → amount_of (if x then q else switched b q) k ≡ amount_of q k
    go true = refl
    go false = refl

-- ---- restore

left_cons : (k : ℕ) (r : MessageRecord) (rs : List MessageRecord) → records_left k (r ∷ rs) ≡ for_stream k r.id (length r.payload - r.offset) + records_left k rs
unfolding records_left
left_cons k r rs = refl

left_nil : (k : ℕ) → records_left k [] ≡ 0
unfolding records_left
left_nil k = refl

restored_size : (now : ℕ) (r : MessageRecord) → remaining (restored_item now r) ≡ length r.payload - r.offset
unfolding restored_item
restored_size now r = refl

messages_amount : (o : Options) (now k : ℕ) (rs : List MessageRecord) (ss : List Stream) → amount_at o (restore_messages o now rs ss) k ≡ amount_at o ss k + records_left k rs
messages_amount o now k [] ss = let a : amount_at o (restore_messages o now [] ss) k ≡ amount_at o ss k = ap (λ (l : List Stream). amount_at o l k) (restore_messages_nil o now ss) in let b = left_nil k in omega arith
messages_amount o now k (r ∷ rs) ss =
    let a : amount_at o (restore_messages o now (r ∷ rs) ss) k ≡ amount_at o (restore_messages o now rs (restore_message o now r ss)) k = ap (λ (l : List Stream). amount_at o l k) (restore_messages_cons o now r rs ss) in
    let ih = messages_amount o now k rs (restore_message o now r ss) in
    let e = restored_size now r in
    let c : amount_at o (restore_message o now r ss) k ≡ amount_at o (put_stream (with_restored o now r ss) ss) k = ap (λ (l : List Stream). amount_at o l k) (restore_message_of o now r ss) in
    let d = amount_change o (with_restored o now r ss) ss r.id k 0 (length r.payload - r.offset) (at_id o ss r.id) (omega arith) in
    let z = for_none k r.id in let l = left_cons k r rs in omega arith

zero_amounts : (o : Options) (rs : List StreamRecord) → Every (λ s. s.amount ≡ 0) (map (restored_stream o) rs)
unfolding restored_stream
zero_amounts o [] = tt
zero_amounts o (r ∷ rs) = (refl, zero_amounts o rs)

restored_amount : (k now : ℕ) (h : Handover) (q : Queue) → amount_of (restored now h q) k ≡ records_left k h.messages
unfolding restored amount_of restore_streams
restored_amount k now h q =
    let a = messages_amount q.options now k h.messages (map (restored_stream q.options) h.streams) in
    let b : amount_at q.options (map (restored_stream q.options) h.streams) k ≡ 0 = every_at (λ s. s.amount ≡ 0) q.options k (map (restored_stream q.options) h.streams) (zero_amounts q.options h.streams) refl in omega arith

empty_amount : (k : ℕ) (q : Queue) → q.streams ≡ [] → amount_of q k ≡ 0
unfolding amount_of
empty_amount k q e = ap (λ (l : List Stream). amount_at q.options l k) e ∙ ap (λ (s : Stream). s.amount) (at_new q.options [] k (unfold find in refl))

abbrev leaves_to_send : ℕ → Option Handover → Answer → ℕ
leaves_to_send k x a = unless_refused a (image_left k x)

left_of : (k : ℕ) (h : Handover) → image_left k (some h) ≡ records_left k h.messages
unfolding image_left
left_of k h = refl

record_balances : (k now : ℕ) (q : Queue) (x : Option Handover) → q.streams ≡ [] → Balances k q none_moves (leaves_to_send k x) (restore_read now q x)
unfolding restore_read
record_balances k now q none e = balances_refused k q none_moves (leaves_to_send k none) (λ r. nothing_moves (refused r)) (λ r. refl) 13
record_balances k now q (some h) e =
    balances_checked k (record_checks now q h) q (reply done [] (restored now h q)) none_moves (leaves_to_send k (some h)) (λ r. nothing_moves (refused r)) (λ r. refl)
    (λ p. let a = restored_amount k now h q in let b = empty_amount k q e in let c = left_of k h in let z = nothing_moves done in record { balance = omega arith })

balances_restore : (k store now : ℕ) (image : List ℕ) (q : Queue) → Balances k q none_moves (leaves_to_send k (read_image image)) (Restore.restore store now image q)
balances_restore k store now image q =
    subst (Balances k q none_moves (leaves_to_send k (read_image image))) (sym (restore_of store now image q))
    (balances_checked k (restore_checks store now q) q (restore_read now q (read_image image)) none_moves (leaves_to_send k (read_image image)) (λ r. nothing_moves (refused r)) (λ r. refl)
    (λ p. record_balances k now q (read_image image) (nil_of q.streams (not-false (is_nil q.streams) (or_left (not (is_nil q.streams)) (not (eqb q.next_message_id 0)) p.1.1.0)))))

-- ---- every call, and a list of calls

-- The account balances.
record Balanced (k : ℕ) (q : Queue) (a : Account) (r : Queue) : Type 0 where
  balanced : amount_of r k + (a.handed_out + a.dropped_unsent) ≡ amount_of q k + (a.accepted + (a.put_back_whole + a.left_to_send))

unmoved : (k : ℕ) (q : Queue) (s : Step) → Balances k q none_moves none_moves s → Balanced k q no_bytes s.next
unmoved k q s b = let e = b.balance in let z = nothing_moves s.outcome.answer in record { balanced = omega arith }

-- The next fragment.
produce_balanced : (k store places buffer now size : ℕ) (q : Queue) → Well q → Balanced k q (produce_account k store places buffer now size q) (Calls.produce store places buffer now size q).next
unfolding produce_account
produce_balanced k store places buffer now size q w = let e = (balances_produce k store places buffer now size q w).balance in let z = nothing_moves (Calls.produce store places buffer now size q).outcome.answer in record { balanced = omega arith }

-- A filling's calls for the next fragment, one after another.
calls_balanced : (k store places now limit : ℕ) (q : Queue) → Well q → let r = filling store places now limit q in Balanced k q (fill_account k store places now r.sizes q) r.next
unfolding no_calls fill_account filling
calls_balanced k store places now limit q w =
    fill_induct q.interleaving store places now limit Well (λ n q w. (fine_produce store places (suc n) now (suc n) q w).next_well)
    (λ used q r. Balanced k q (fill_account k store places now r.sizes q) r.next)
    (λ used q w e. record { balanced = omega arith })
    (λ n used q w e f. let a = (produce_balanced k store places (suc n) now (suc n) q w).balanced in record { balanced = omega arith })
    (λ n used q f r w e g h. let a = (produce_balanced k store places (suc n) now (suc n) q w).balanced in let b = h.balanced in record { balanced = omega arith })
    limit common_header_length q w (omega arith)

-- Filling a packet: a step that is refused and changes nothing, or whose calls balance.
StepBalanced : ℕ → Queue → Account → Step → Type 0
StepBalanced k q a s = Balanced k q (none_refused s.outcome.answer a) s.next

filled_balanced : (k : ℕ) (a : Account) (p : Packet) (q : Queue) (r : Filling) → Balanced k q a r.next → (fs : List Fragment) (x : Option ℕ) → StepBalanced k q a (filled_with p q r fs x)
unfolding filled_with StepBalanced
filled_balanced k a p q r h [] (some n) = record { balanced = omega arith }
filled_balanced k a p q r h [] none = h
filled_balanced k a p q r h (f ∷ fs) x = h

checked_balanced : (k : ℕ) (a : Account) (cs : List Check) (q : Queue) (s : Step) → StepBalanced k q a s → StepBalanced k q a (checked cs q s)
unfolding checked refused_or StepBalanced
checked_balanced k a cs q s h = go (first_refusal cs)
  where
    go : (x : Option ℕ) → StepBalanced k q a (refused_or x q s)
    go none = h
    go (some n) = record { balanced = omega arith }

fill_balanced : (k store places buffer now : ℕ) (p : Packet) (q : Queue) → Well q → StepBalanced k q (fill_account k store places now (filling store places now p.limit q).sizes q) (Calls.fill store places buffer now p q)
unfolding Calls.fill
fill_balanced k store places buffer now p q w =
    let r : Filling = filling store places now p.limit q in
    let a : Account = fill_account k store places now r.sizes q in
    checked_balanced k a (fill_checks store places buffer now p.limit q) q (filled_with p q r r.fragments r.refusal)
    (filled_balanced k a p q r (calls_balanced k store places now p.limit q w) r.fragments r.refusal)

step_balanced : (k : ℕ) (c : Call) (q : Queue) → Well q → Balanced k q (account k c q) (step c q).next
unfolding account step StepBalanced
step_balanced k (add store now m) q w = let e = (balances_add k store now m q).balance in let z = nothing_moves (Calls.add store now m q).outcome.answer in record { balanced = omega arith }
step_balanced k (produce store places buffer now size) q w = produce_balanced k store places buffer now size q w
step_balanced k (fill store places buffer now p) q w = fill_balanced k store places buffer now p q w
step_balanced k (discard places s m) q w = let e = (balances_discard k places s m q).balance in let z = nothing_moves (Calls.discard places s m q).outcome.answer in record { balanced = omega arith }
step_balanced k (close places s) q w = let e = (balances_close k places s q).balance in let z = nothing_moves (Calls.close places s q).outcome.answer in record { balanced = omega arith }
step_balanced k ready_ids q w = unmoved k q (Calls.ready_ids q) (balances_same k q (Calls.ready_ids q) (ready_amount k q))
step_balanced k commit q w = unmoved k q (reopen true q) (balances_same k q (reopen true q) (reopen_amount k true q))
step_balanced k rollback q w = unmoved k q (reopen false q) (balances_same k q (reopen false q) (reopen_amount k false q))
step_balanced k reset q w = let e = (balances_reset k q).balance in let z = nothing_moves (Calls.reset q).outcome.answer in record { balanced = omega arith }
step_balanced k (set_threshold places s t) q w = unmoved k q (Calls.set_threshold places s t q) (threshold_balances k places s t q)
step_balanced k (set_priority s p) q w = unmoved k q (Calls.set_priority s p q) (priority_balances k s p q)
step_balanced k (set_interleaving b) q w = unmoved k q (Calls.set_interleaving b q) (interleaving_balances k b q)
step_balanced k (restore store now image) q w = let e = (balances_restore k store now image q).balance in let z = nothing_moves (Restore.restore store now image q).outcome.answer in record { balanced = omega arith }
step_balanced k (ask_priority s) q w = record { balanced = omega arith }
step_balanced k (ask_amount s) q w = record { balanced = omega arith }
step_balanced k (ask_threshold s) q w = record { balanced = omega arith }
step_balanced k ask_total q w = record { balanced = omega arith }
step_balanced k ask_empty q w = record { balanced = omega arith }
step_balanced k ask_has_data q w = record { balanced = omega arith }
step_balanced k ask_streams_ready q w = record { balanced = omega arith }
step_balanced k ask_ready_count q w = record { balanced = omega arith }
step_balanced k ask_readiness q w = record { balanced = omega arith }
step_balanced k (ask_room r) q w = record { balanced = omega arith }

record Ends (k : ℕ) (q : Queue) (a : Account) (r : Queue) : Type 0 where
  ends_balanced : Balanced k q a r
  ends_well : Well r

run_balanced : (k : ℕ) (cs : List Call) (q : Queue) → AllTyped cs → Well q → Ends k q (accounts k cs q) (after cs q)
unfolding accounts after
run_balanced k [] q t w = record { ends_balanced = record { balanced = omega arith }; ends_well = w }
run_balanced k (c ∷ cs) q t w =
    let v : Well (step c q).next = (fine_step c q t.0 w).next_well in
    let a = (step_balanced k c q w).balanced in let b = run_balanced k cs (step c q).next t.1 v in let e = b.ends_balanced.balanced in
    record { ends_balanced = record { balanced = omega arith }; ends_well = b.ends_well }

new_amount : (k : ℕ) (o : Options) → amount_of (new_queue o) k ≡ 0
unfolding new_queue
new_amount k o = empty_amount k (new_queue o) refl

-- Request 11/13, first half.
pub request11_account : Request11Account
unfolding Request11Account
request11_account o cs k c t =
    let r = run_balanced k cs (new_queue o) t (well_new o c) in let a = r.ends_balanced.balanced in let z = new_amount k o in
    record { amount_is = omega arith; total_is = r.ends_well.total_counted }
