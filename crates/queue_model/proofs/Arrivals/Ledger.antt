-- Request 4/13 on the model: each stream holds exactly the messages that its ledger has, in order of arrival; and no head is passed over that has not
-- expired. Assumes nothing.
use mathlib.Core.Path.{◌≡◌, refl, sym, ap, ◌∙◌, subst}
use mathlib.Core.Bool.{Bool, true, false}
use mathlib.Core.List.{List, [], ◌∷◌, ◌++◌, map, append_assoc, append-nil}
use mathlib.Core.Option.{Option, none, some, get_or}
use Prim.Native.Nat.{ℕ, zero, suc, ◌-◌, ◌≤◌, min}
use native.Mathlib.Omega.{arith}
use lib.Dec.{ltb, eqb}
use Rattle.std.specs.Prelude.{if◌then◌else◌}
use Rattle.queue_model.specs.Logic.{same_bool}
use Rattle.queue_model.specs.Table.{find}
use Rattle.queue_model.specs.Types.{Item, PauseState, not_paused, pending, paused, resetting, Stream, Active, Options, Queue, Event, Fragment, Packet, done, fragment, filled, Step, remaining, with_items, model_with_pause, with_threshold, with_priority, refuse, reply, Message}
use Rattle.queue_model.specs.Streams.{find_stream, new_stream, waiting, know, new_queue, stream_key, at, stream_at, with_message}
use Rattle.queue_model.specs.Refusals.{Check, first_refusal, short_of, refused_or, checked, short_of_head}
use Rattle.queue_model.specs.Amounts.{drop_head_events, sent_events}
use Rattle.queue_model.specs.Add.{added, add_checks, new_item}
use Rattle.queue_model.specs.Produce.{Head, head_of, drop_in, Look, nothing, broken, dropped, chosen, look, numbered, make_fragment, handed_out, hand_out, after_look, pass_over, produce_checks}
use Rattle.queue_model.specs.Fill.{Filling, no_calls, common_header_length, filling, filled_with, fill_checks}
use Rattle.queue_model.specs.Packets.{separate_calls}
use Rattle.queue_model.specs.Discard.{discard_at, discard_checks, discarded}
use Rattle.queue_model.specs.Close as close_spec
use Rattle.queue_model.specs.Close.{closed, close_checks, closed_state, kept, swept_bytes}
use Rattle.queue_model.specs.Reset.{reopen, paused_to_resetting, is_paused, is_resetting, opened, reopened, reset_stream, reset_checks}
use Rattle.queue_model.specs.Settings.{priority_checks, threshold_checks, switched}
use Rattle.queue_model.specs.Image.{MessageRecord, StreamRecord, Handover}
use Rattle.queue_model.specs.Reader.{read_image}
use Rattle.queue_model.specs.Restore.{restored_stream, restored_item, restore_streams, restore_message, restore_messages, restored, record_checks, restore_checks, restore_read}
use Rattle.queue_model.specs.Run.{Call, add, produce, fill, discard, close, ready_ids, commit, rollback, reset, set_threshold, set_priority, set_interleaving, restore, ask_priority, ask_amount, ask_threshold, ask_total, ask_empty, ask_has_data, ask_streams_ready, ask_ready_count, ask_readiness, ask_room, step, after}
use Rattle.queue_model.specs.Answers.{is_refused, fragments_in}
use Rattle.queue_model.specs.Passing.{passing_after, passing}
use Rattle.queue_model.specs.History.{Piece, piece, Entry, entry, asks_at, choices, passed_at, entries, made_of, history}
use Rattle.queue_model.specs.Arrivals.{Ledger, new_ledger, on_stream, append_arrival, count_arrival, drop_first, has_message_id, expire_heads, send_piece, send_pieces, discard_head, close_in, close_stream, readied, ready_stream, reopen_in, reopen_stream, reset_ledger, records_of, record_key, record_counters, image_laid, entered, enter, ledger, HeadsNamed, Right, AllRight, stream_view, view, Request4Ledger, Request4Passed}
use Rattle.queue_model.proofs.Table.{find_here, find_there, own, other, is_own}
use Rattle.queue_model.proofs.Checks.{or_right, not_less, checked_either, restore_of}
use Rattle.queue_model.proofs.Streams.{at_found, at_new, at_id}
use Rattle.queue_model.proofs.Invariant.Sends.{drop_in_options, handed_options, head_of_at, headless, headed, heads}
use Rattle.queue_model.proofs.Fill.Calls.{fill_induct}
use Rattle.queue_model.proofs.Calm.Calm.{HeadAt}
use Rattle.queue_model.proofs.Demand3.Restored.{restore_message_of, restore_messages_cons, restore_messages_nil, with_restored}
use Rattle.queue_model.proofs.Arrivals.Views.{ledger_of, held, put_view, put_same, still, map_view}
use Rattle.queue_model.proofs.Arrivals.Heads.{head_id, discard_other, discarded_view, PieceOf, piece_of, handed_view, piece_named, LookFollows, look_follows, first_passed, heads_expired}
use Rattle.queue_model.specs.Calls
use Rattle.queue_model.specs.Restore

-- ---- a step that the ledger follows

-- The rule of a restart stays creation's.
abbrev rule : Queue → Bool
rule q = q.options.strict_restart

record Follows (k : ℕ) (c : Call) (ss : List ℕ) (q : Queue) (s : Step) : Type 0 where
  same_options : s.next.options ≡ q.options
  follows : view k s.next ≡ enter (rule q) k (entry c s.outcome.answer ss) (view k q)

follows_refused : (k : ℕ) (c : Call) (ss : List ℕ) (q : Queue) (n : ℕ) → Follows k c ss q (refuse q n)
unfolding enter
follows_refused k c ss q n = record { same_options = refl; follows = refl }

follows_checked : (k : ℕ) (c : Call) (ss : List ℕ) (cs : List Check) (q : Queue) (s : Step) → Follows k c ss q s → Follows k c ss q (checked cs q s)
follows_checked k c ss cs q s h = checked_either (Follows k c ss q) cs q s (follows_refused k c ss q) (λ p. h)

-- ---- add

add_view : (now n : ℕ) (m : Message) (s : Stream) → stream_view n (with_message s (new_item now n m)) ≡ append_arrival now m (stream_view n s)
unfolding append_arrival
add_view now n m s = refl

follows_add : (k store now : ℕ) (m : Message) (q : Queue) → Follows k (add store now m) [] q (Calls.add store now m q)
unfolding Calls.add added enter entered
follows_add k store now m q =
    let s : Stream = stream_at q m.stream_id in
    let n : ℕ = q.next_message_id in
    follows_checked k (add store now m) [] (add_checks store now m q) q (reply done [] (added now m q)) (record {
      same_options = refl;
      follows = ap count_arrival (put_view q.options n (with_message s (new_item now n m)) q.streams m.stream_id k (append_arrival now m) (at_id q.options q.streams m.stream_id) (add_view now n m s));
    })

-- ---- discard

-- A discard that finds no head.
discard_none : (m : ℕ) (l : Ledger) → l.messages ≡ [] → discard_head m l ≡ l
unfolding discard_head drop_first
discard_none m l e = ap (drop_first (has_message_id m) l) e

follows_either : (k : ℕ) (c : Call) (ss : List ℕ) (q : Queue) (b : Bool) (s t : Step) → (b ≡ true → Follows k c ss q s) → (b ≡ false → Follows k c ss q t) → Follows k c ss q (if b then s else t)
follows_either k c ss q true s t x y = x refl
follows_either k c ss q false s t x y = y refl

follows_discard : (k places j m : ℕ) (q : Queue) → Follows k (discard places j m) [] q (Calls.discard places j m q)
unfolding Calls.discard discarded enter entered discard_at
follows_discard k places j m q = follows_checked k c [] (discard_checks places) q (discard_at m q (head_of (find_stream j q.streams))) (elim (heads q.streams j) [
  | headless e n ↦ subst (λ (x : Head). Follows k c [] q (discard_at m q x)) (sym e) (stays (still k j (discard_head m) q (discard_none m (view j q) (n q.options))))
  | headed s i is h ↦ subst (λ (x : Head). Follows k c [] q (discard_at m q x)) (sym (head_of_at q.streams j s i is h))
      (follows_either k c [] q (eqb i.message_id m) (discarded q s i is) (reply done [] q) (leaves s i is h) (λ e. stays (still k j (discard_head m) q (discard_other q j k s i is h m e))))
])
  where
    c : Call
    c = discard places j m

    stays : view k q ≡ on_stream j k (discard_head m) (view k q) → Follows k c [] q (reply done [] q)
    stays e = record { same_options = refl; follows = e }

    leaves : (s : Stream) (i : Item) (is : List Item) → HeadAt q.streams j s i is → eqb i.message_id m ≡ true → Follows k c [] q (discarded q s i is)
    leaves s i is h e = follows_either k c [] q (short_of q s (remaining i)) (refuse q 16) (reply done (drop_head_events q s i) (drop_in s.pause_state q s i is))
        (λ f. follows_refused k c [] q 16) (λ f. record { same_options = drop_in_options s.pause_state q s i is; follows = discarded_view q j k s i is h m e })

-- ---- next fragment

-- What is seen of the fragment that a step shows.
abbrev pieces_of : Step → List Piece
pieces_of s = map piece (fragments_in s.outcome.answer)

-- Passing over the heads of these streams, and handing out what the answer shows.
record Sends (k now : ℕ) (q : Queue) (ss : List ℕ) (s : Step) : Type 0 where
  answered : is_refused s.outcome.answer ≡ false
  sent_options : s.next.options ≡ q.options
  sends : view k s.next ≡ send_pieces k (pieces_of s) (expire_heads k now ss (view k q))
  named : HeadsNamed k (pieces_of s) (expire_heads k now ss (view k q))

abbrev SendsMaybe : ℕ → ℕ → Queue → List ℕ → Option Step → Type 0
SendsMaybe k now q ss none = Unit {0}
SendsMaybe k now q ss (some s) = Sends k now q ss s

head_long : (q : Queue) (s : Stream) (i : Item) (n : ℕ) → short_of_head q s i n ≡ false → n ≤ remaining i
unfolding short_of_head
head_long q s i n e = not_less (remaining i) n (or_right (short_of q s n) (ltb (remaining i) n) e)

none_passed : (k now : ℕ) (l : Ledger) → expire_heads k now (choices []) l ≡ l
unfolding choices expire_heads
none_passed k now l = refl

sends_hand_out : (k now size : ℕ) (q : Queue) (es : List Event) (a : Active) (s : Stream) (i : Item) (is : List Item) → HeadAt q.streams a.stream_id s i is → SendsMaybe k now q (choices []) (hand_out size q es a s i is)
unfolding hand_out send_pieces
sends_hand_out k now size q es a s i is h = go (short_of_head q s i n) refl
  where
    n : ℕ
    n = min a.bytes_remaining size

    p : Piece
    p = piece (make_fragment s (numbered s.counters i).item n)

    sent : Step
    sent = reply (fragment (make_fragment s (numbered s.counters i).item n)) (es ++ sent_events q s n) (handed_out q a s i is n)

    go : (b : Bool) → short_of_head q s i n ≡ b → SendsMaybe k now q (choices []) (if b then none else some sent)
    go true e = tt
    go false e =
        let g : PieceOf s i n p = piece_of s i n (head_long q s i n e) in
        let z : expire_heads k now (choices []) (view k q) ≡ view k q = none_passed k now (view k q) in
        record {
          answered = refl;
          sent_options = handed_options q a s i is n;
          sends = handed_view q a.stream_id k s i is h a n p g ∙ ap (λ (x : ℕ). on_stream x k (send_piece p) (view k q)) (sym (g.of_stream ∙ head_id q a.stream_id k s i is h)) ∙ ap (send_pieces k (p ∷ [])) (sym z);
          named = subst (HeadsNamed k (p ∷ [])) (sym z) (piece_named q a.stream_id k s i is h a n p g, tt);
        }

-- What follows a look, if what follows a drop is right.
sends_after : (k now size : ℕ) (q : Queue) (es : List Event) (rest : Queue → List Queue) (again : Queue → List Event → Option Step) (l : Look) → LookFollows k now q l
    → ((r : Queue) (ds : List Event) → SendsMaybe k now r (choices (rest r)) (again r ds))
    → SendsMaybe k now q (choices (passing_after q rest l)) (after_look again size q es l)
unfolding passing_after after_look
sends_after k now size q es rest again nothing v ih = record { answered = refl; sent_options = refl; sends = unfold send_pieces in sym (none_passed k now (view k q)); named = tt }
sends_after k now size q es rest again broken v ih = tt
sends_after k now size q es rest again (dropped r ds) v ih = go (again r (es ++ ds)) (ih r (es ++ ds))
  where
    go : (x : Option Step) → SendsMaybe k now r (choices (rest r)) x → SendsMaybe k now q (choices (q ∷ rest r)) x
    go none u = tt
    go (some s) u =
        let e = first_passed k now q r v (rest r) in
        record { answered = u.answered; sent_options = u.sent_options ∙ v.drop_options; sends = u.sends ∙ ap (send_pieces k (pieces_of s)) e; named = subst (HeadsNamed k (pieces_of s)) e u.named }
sends_after k now size q es rest again (chosen a s i is) v ih = sends_hand_out k now size q es a s i is v

sends_pass : (k turns now size : ℕ) (q : Queue) (es : List Event) → SendsMaybe k now q (choices (passing turns now q)) (pass_over turns now size q es)
unfolding pass_over passing
sends_pass k zero now size q es = tt
sends_pass k (suc turns) now size q es = sends_after k now size q es (λ (r : Queue). passing turns now r) (λ (r : Queue) (ds : List Event). pass_over turns now size r ds) (look now q) (look_follows k now q) (λ r ds. sends_pass k turns now size r ds)

module _ (k store places buffer now size : ℕ) (q : Queue) where
  abbrev asks : Call
  asks = produce store places buffer now size

  abbrev passes : List ℕ
  passes = choices (passing (suc (waiting q.streams)) now q)

  follows_produce : Follows k asks passes q (Calls.produce store places buffer now size q)
  unfolding Calls.produce enter entered
  follows_produce = follows_checked k asks passes (produce_checks store places buffer now size q) q (get_or (pass_over (suc (waiting q.streams)) now size q []) (refuse q 16))
      (go (pass_over (suc (waiting q.streams)) now size q []) (sends_pass k (suc (waiting q.streams)) now size q []))
    where
      go : (x : Option Step) → SendsMaybe k now q passes x → Follows k asks passes q (get_or x (refuse q 16))
      go none v = follows_refused k asks passes q 16
      go (some s) v = record {
        same_options = v.sent_options;
        follows = v.sends ∙ ap (λ (b : Bool). if b then view k q else send_pieces k (pieces_of s) (expire_heads k now passes (view k q))) (sym v.answered);
      }

  -- The fragment names the head.
  names : HeadsNamed k (pieces_of (Calls.produce store places buffer now size q)) (expire_heads k now passes (view k q))
  unfolding Calls.produce
  names = checked_either (λ (s : Step). HeadsNamed k (pieces_of s) (expire_heads k now passes (view k q))) (produce_checks store places buffer now size q) q (get_or (pass_over (suc (waiting q.streams)) now size q []) (refuse q 16)) (λ r. tt)
      (λ p. go (pass_over (suc (waiting q.streams)) now size q []) (sends_pass k (suc (waiting q.streams)) now size q []))
    where
      go : (x : Option Step) → SendsMaybe k now q passes x → HeadsNamed k (pieces_of (get_or x (refuse q 16))) (expire_heads k now passes (view k q))
      go none v = tt
      go (some s) v = v.named

-- ---- close

closed_view : (n m : ℕ) (s : Stream) → s.pause_state ≡ not_paused → stream_view n (model_with_pause (closed_state (kept s.items)) (with_items s m (kept s.items))) ≡ close_stream (stream_view n s)
unfolding close_stream close_in
closed_view n m s e = ap (λ (p : PauseState). close_in p (stream_view n s)) (sym e)

close_other : (p : PauseState) (l : Ledger) → l.state ≡ p → close_in p l ≡ l → close_stream l ≡ l
unfolding close_stream
close_other p l e h = ap (λ (x : PauseState). close_in x l) e ∙ h

follows_close : (k places j : ℕ) (q : Queue) → Follows k (close places j) [] q (Calls.close places j q)
unfolding Calls.close close_spec.close_in closed enter entered close_in
follows_close k places j q = follows_checked k (close places j) [] (close_checks places j q) q (close_spec.close_in s.pause_state q s) (go s.pause_state refl)
  where
    s : Stream
    s = stream_at q j

    stays : (p : PauseState) → s.pause_state ≡ p → close_in p (view j q) ≡ view j q → Follows k (close places j) [] q (reply done [] q)
    stays p e h = record { same_options = refl; follows = still k j close_stream q (close_other p (view j q) e h) }

    go : (p : PauseState) → s.pause_state ≡ p → Follows k (close places j) [] q (close_spec.close_in p q s)
    go not_paused e = record { same_options = refl; follows = put_view q.options q.next_message_id _ q.streams j k close_stream (at_id q.options q.streams j) (closed_view q.next_message_id (s.amount - swept_bytes s.items) s e) }
    go pending e = stays pending e refl
    go paused e = stays paused e refl
    go resetting e = stays resetting e refl

-- ---- all streams

ready_view : (n : ℕ) (s : Stream) → stream_view n (paused_to_resetting s) ≡ ready_stream (stream_view n s)
unfolding paused_to_resetting is_paused ready_stream readied
ready_view n s = go s.pause_state refl
  where
    go : (p : PauseState) → s.pause_state ≡ p → stream_view n (paused_to_resetting s) ≡ ready_stream (stream_view n s)
    go not_paused e = rw e
    go pending e = rw e
    go paused e = rw e
    go resetting e = rw e

pub ready_id : (s : Stream) → (paused_to_resetting s).id ≡ s.id
unfolding paused_to_resetting
ready_id s = go (is_paused s)
  where
    go : (b : Bool) → (if b then model_with_pause resetting s else s).id ≡ s.id
    go true = refl
    go false = refl

follows_ready : (k : ℕ) (q : Queue) → Follows k ready_ids [] q (Calls.ready_ids q)
unfolding Calls.ready_ids enter entered
follows_ready k q = record { same_options = refl; follows = map_view paused_to_resetting ready_stream q.options q.next_message_id k q.streams ready_id (ready_view q.next_message_id) (unfold ready_stream readied in refl) }

opened_view : (n : ℕ) (z : Bool) (s : Stream) → stream_view n (opened z s) ≡ reopen_in resetting z (stream_view n s)
unfolding opened reopen_in
opened_view n true s = refl
opened_view n false s = refl

opened_id : (z : Bool) (s : Stream) → (opened z s).id ≡ s.id
unfolding opened
opened_id true s = refl
opened_id false s = refl

reopened_view : (n : ℕ) (z : Bool) (s : Stream) → stream_view n (reopened z s) ≡ reopen_stream z (stream_view n s)
unfolding reopened is_resetting reopen_stream reopen_in
reopened_view n z s = go s.pause_state refl
  where
    go : (p : PauseState) → s.pause_state ≡ p → stream_view n (reopened z s) ≡ reopen_stream z (stream_view n s)
    go not_paused e = rw e
    go pending e = rw e
    go paused e = rw e
    go resetting e = rw e (opened_view n z (model_with_pause resetting s))

pub reopened_id : (z : Bool) (s : Stream) → (reopened z s).id ≡ s.id
unfolding reopened
reopened_id z s = go (is_resetting s)
  where
    go : (b : Bool) → (if b then opened z s else s).id ≡ s.id
    go true = opened_id z s
    go false = refl

reopen_view : (k : ℕ) (z : Bool) (q : Queue) → view k (reopen z q).next ≡ reopen_stream z (view k q)
unfolding reopen
reopen_view k z q = map_view (reopened z) (reopen_stream z) q.options q.next_message_id k q.streams (reopened_id z) (reopened_view q.next_message_id z) (unfold reopen_stream reopen_in in refl)

follows_commit : (k : ℕ) (q : Queue) → Follows k commit [] q (Calls.commit q)
unfolding Calls.commit reopen enter entered
follows_commit k q = record { same_options = refl; follows = reopen_view k true q }

follows_rollback : (k : ℕ) (q : Queue) → Follows k rollback [] q (Calls.rollback q)
unfolding Calls.rollback reopen enter entered
follows_rollback k q = record { same_options = refl; follows = reopen_view k false q }

reset_view : (strict : Bool) (n : ℕ) (s : Stream) → stream_view n (reset_stream strict s) ≡ reset_ledger strict (stream_view n s)
unfolding reset_stream reset_ledger
reset_view strict n s = refl

pub reset_id : (strict : Bool) (s : Stream) → (reset_stream strict s).id ≡ s.id
unfolding reset_stream
reset_id strict s = refl

follows_reset : (k : ℕ) (q : Queue) → Follows k reset [] q (Calls.reset q)
unfolding Calls.reset enter entered
follows_reset k q = follows_checked k reset [] (reset_checks q) q _ (record {
  same_options = refl;
  follows = map_view (reset_stream (rule q)) (reset_ledger (rule q)) q.options q.next_message_id k q.streams (reset_id (rule q)) (reset_view (rule q) q.next_message_id) (unfold reset_ledger in refl);
})

-- ---- settings

know_view : (q : Queue) (s : Stream) (j k : ℕ) → s.id ≡ j → stream_view q.next_message_id s ≡ view j q → view k (know q s) ≡ view k q
know_view q s j k i e = put_same q.options q.next_message_id s q.streams j k i e

follows_threshold : (k places j t : ℕ) (q : Queue) → Follows k (set_threshold places j t) [] q (Calls.set_threshold places j t q)
unfolding Calls.set_threshold enter entered
follows_threshold k places j t q = follows_checked k (set_threshold places j t) [] (threshold_checks places j q) q _ (record { same_options = refl; follows = know_view q (with_threshold t (stream_at q j)) j k (at_id q.options q.streams j) refl })

follows_priority : (k j p : ℕ) (q : Queue) → Follows k (set_priority j p) [] q (Calls.set_priority j p q)
unfolding Calls.set_priority enter entered
follows_priority k j p q = follows_checked k (set_priority j p) [] (priority_checks j q) q _ (record { same_options = refl; follows = know_view q (with_priority p (stream_at q j)) j k (at_id q.options q.streams j) refl })

follows_interleaving : (k : ℕ) (b : Bool) (q : Queue) → Follows k (set_interleaving b) [] q (Calls.set_interleaving b q)
unfolding Calls.set_interleaving switched enter entered
follows_interleaving k b q = go (same_bool b q.interleaving)
  where
    go : (x : Bool) → Follows k (set_interleaving b) [] q (reply done [] (if x then q else switched b q))
    go true = record { same_options = refl; follows = refl }
    go false = record { same_options = refl; follows = refl }

-- ---- restore

-- Messages at the end of a stream's.
abbrev laid : ℕ → List Item → Ledger → Ledger
laid n is l = ledger_of n l.state l.counters (l.messages ++ is)

records_none : (k now : ℕ) → records_of k now [] ≡ []
unfolding records_of
records_none k now = refl

-- One record more, in the ledger of stream k.
records_more : (n k now : ℕ) (r : MessageRecord) (rs : List MessageRecord) (l : Ledger) → l.next_id ≡ n → laid n (records_of k now rs) (on_stream r.id k (laid n (restored_item now r ∷ [])) l) ≡ laid n (records_of k now (r ∷ rs)) l
unfolding records_of on_stream
records_more n k now r rs l e = go (eqb r.id k)
  where
    go : (b : Bool) → laid n (records_of k now rs) (if b then laid n (restored_item now r ∷ []) l else l) ≡ laid n (if b then restored_item now r ∷ records_of k now rs else records_of k now rs) l
    go true = ap (ledger_of n l.state l.counters) (append_assoc l.messages (restored_item now r ∷ []) (records_of k now rs))
    go false = refl

messages_view : (o : Options) (n now k : ℕ) (rs : List MessageRecord) (ss : List Stream) → held o n (restore_messages o now rs ss) k ≡ laid n (records_of k now rs) (held o n ss k)
messages_view o n now k [] ss = ap (λ (x : List Stream). held o n x k) (restore_messages_nil o now ss)
    ∙ ap (ledger_of n (at o ss k).pause_state (at o ss k).counters) (sym (append-nil (at o ss k).items) ∙ ap (λ (is : List Item). (at o ss k).items ++ is) (sym (records_none k now)))
messages_view o n now k (r ∷ rs) ss =
    ap (λ (x : List Stream). held o n x k) (restore_messages_cons o now r rs ss) ∙ messages_view o n now k rs (restore_message o now r ss)
    ∙ ap (λ (x : List Stream). laid n (records_of k now rs) (held o n x k)) (restore_message_of o now r ss)
    ∙ ap (laid n (records_of k now rs)) (put_view o n (with_restored o now r ss) ss r.id k (laid n (restored_item now r ∷ [])) (at_id o ss r.id) refl)
    ∙ records_more n k now r rs (held o n ss k) refl

-- A restored stream before its messages.
restored_counters : (o : Options) (n : ℕ) (r : StreamRecord) → stream_view n (restored_stream o r) ≡ ledger_of n not_paused (record_counters (some r)) []
unfolding restored_stream record_counters
restored_counters o n r = refl

restored_id : (o : Options) (r : StreamRecord) → (restored_stream o r).id ≡ r.id
unfolding restored_stream
restored_id o r = refl

streams_view : (o : Options) (n k : ℕ) (rs : List StreamRecord) → held o n (map (restored_stream o) rs) k ≡ ledger_of n not_paused (record_counters (find record_key k rs)) []
streams_view o n k [] = ap (stream_view n) (at_new o [] k (unfold find in refl)) ∙ unfold find record_counters in refl
streams_view o n k (r ∷ rs) = elim (is_own record_key r k) [
  | own e ↦ ap (stream_view n) (at_found o (restored_stream o r ∷ map (restored_stream o) rs) k (restored_stream o r) (find_here stream_key k (restored_stream o r) (map (restored_stream o) rs) (restored_id o r ∙ e))) ∙ restored_counters o n r
      ∙ ap (λ (x : Option StreamRecord). ledger_of n not_paused (record_counters x) []) (sym (find_here record_key k r rs e))
  | other e ↦ ap (λ (x : Option Stream). stream_view n (get_or x (new_stream o k))) (find_there stream_key k (restored_stream o r) (map (restored_stream o) rs) (λ d. e (sym (restored_id o r) ∙ d))) ∙ streams_view o n k rs
      ∙ ap (λ (x : Option StreamRecord). ledger_of n not_paused (record_counters x) []) (sym (find_there record_key k r rs e))
]

restored_view : (k now : ℕ) (h : Handover) (q : Queue) → view k (restored now h q) ≡ image_laid k now (some h) (view k q)
unfolding restored restore_streams image_laid
restored_view k now h q =
    let n : ℕ = h.next_message_id in
    messages_view q.options n now k h.messages (map (restored_stream q.options) h.streams) ∙ ap (laid n (records_of k now h.messages)) (streams_view q.options n k h.streams)

follows_restore : (k store now : ℕ) (image : List ℕ) (q : Queue) → Follows k (restore store now image) [] q (Restore.restore store now image q)
unfolding restore_read enter entered
follows_restore k store now image q = subst (Follows k c [] q) (sym (restore_of store now image q)) (follows_checked k c [] (restore_checks store now q) q (restore_read now q (read_image image)) (go (read_image image) refl))
  where
    c : Call
    c = restore store now image

    go : (x : Option Handover) → read_image image ≡ x → Follows k c [] q (restore_read now q x)
    go none e = follows_refused k c [] q 13
    go (some h) e = follows_checked k c [] (record_checks now q h) q (reply done [] (restored now h q))
        (record { same_options = unfold restored in refl; follows = restored_view k now h q ∙ ap (λ (x : Option Handover). image_laid k now x (view k q)) (sym e) })

-- ---- filling a packet

-- The entry of a call.
abbrev entry_of : Call → Queue → Entry
entry_of c q = entry c (step c q).outcome.answer (passed_at (asks_at c) q)

-- What calls, each by itself, lead to; and they name no head but as they should.
record CallsFollow (strict : Bool) (k : ℕ) (cs : List Call) (q r : Queue) : Type 0 where
  calls_follow : view k r ≡ ledger strict k (entries cs q) (view k q)
  calls_right : AllRight strict k (entries cs q) (view k q)

no_call : (strict : Bool) (k : ℕ) (q : Queue) → CallsFollow strict k [] q q
unfolding entries ledger
no_call strict k q = record { calls_follow = refl; calls_right = tt }

-- A next fragment, and calls after it.
module _ (strict : Bool) (k store places buffer now size : ℕ) (q : Queue) (e : rule q ≡ strict) where
  abbrev ask : Call
  ask = produce store places buffer now size

  abbrev asked : Queue
  asked = (Calls.produce store places buffer now size q).next

  ask_follows : view k asked ≡ enter strict k (entry_of ask q) (view k q)
  unfolding step passed_at
  ask_follows = (follows_produce k store places buffer now size q).follows ∙ ap (λ (b : Bool). enter b k (entry_of ask q) (view k q)) e

  ask_right : Right k (entry_of ask q) (view k q)
  unfolding passed_at
  ask_right = (heads_expired k (suc (waiting q.streams)) now q, unfold step in names k store places buffer now size q)

  ask_then : (cs : List Call) (r : Queue) → CallsFollow strict k cs asked r → CallsFollow strict k (ask ∷ cs) q r
  unfolding entries ledger step
  ask_then cs r h = record {
    calls_follow = h.calls_follow ∙ ap (ledger strict k (entries cs asked)) ask_follows;
    calls_right = (ask_right, subst (AllRight strict k (entries cs asked)) ask_follows h.calls_right);
  }

-- A filling's calls, one after another.
filling_follows : (strict : Bool) (k store places now limit : ℕ) (q : Queue) → rule q ≡ strict → CallsFollow strict k (separate_calls store places now (filling store places now limit q).sizes) q (filling store places now limit q).next
unfolding filling no_calls
filling_follows strict k store places now limit q e =
    fill_induct q.interleaving store places now limit (λ q. rule q ≡ strict) (λ n q e. ap (λ (o : Options). o.strict_restart) (follows_produce k store places (suc n) now (suc n) q).same_options ∙ e)
    (λ used q r. CallsFollow strict k (separate_calls store places now r.sizes) q r.next)
    (λ used q e z. no_call strict k q)
    (λ n used q e z f. ask_then strict k store places (suc n) now (suc n) q e [] (Calls.produce store places (suc n) now (suc n) q).next (no_call strict k (Calls.produce store places (suc n) now (suc n) q).next))
    (λ n used q f r e z g h. ask_then strict k store places (suc n) now (suc n) q e (separate_calls store places now r.sizes) r.next h)
    limit common_header_length q e (omega arith)

filling_options : (k store places now limit : ℕ) (q : Queue) → (filling store places now limit q).next.options ≡ q.options
unfolding filling no_calls
filling_options k store places now limit q =
    fill_induct q.interleaving store places now limit (λ q. Unit {0}) (λ n q u. tt) (λ used q r. r.next.options ≡ q.options)
    (λ used q u z. refl) (λ n used q u z f. (follows_produce k store places (suc n) now (suc n) q).same_options) (λ n used q f r u z g h. h ∙ (follows_produce k store places (suc n) now (suc n) q).same_options)
    limit common_header_length q tt (omega arith)

-- ---- every call

-- A call, and behind it those that it is made of.
abbrev whole : Call → Queue → List Entry
whole c q = entry_of c q ∷ entries (made_of c q) q

record FollowsWhole (k : ℕ) (c : Call) (q : Queue) : Type 0 where
  options_kept : (step c q).next.options ≡ q.options
  whole_follows : view k (step c q).next ≡ ledger (rule q) k (whole c q) (view k q)
  whole_right : AllRight (rule q) k (whole c q) (view k q)

-- A call that is made of no other.
by_itself : (k : ℕ) (c : Call) (q : Queue) → made_of c q ≡ [] → Follows k c (passed_at (asks_at c) q) q (step c q) → Right k (entry_of c q) (view k q) → FollowsWhole k c q
unfolding ledger entries
by_itself k c q e h r = record {
  options_kept = h.same_options;
  whole_follows = h.follows ∙ ap (λ (cs : List Call). ledger (rule q) k (entries cs q) (enter (rule q) k (entry_of c q) (view k q))) (sym e);
  whole_right = (r, subst (λ (cs : List Call). AllRight (rule q) k (entries cs q) (enter (rule q) k (entry_of c q) (view k q))) (sym e) tt);
}

-- A filling enters nothing by itself; unless it is refused its calls do.
follows_fill : (k store places buffer now : ℕ) (p : Packet) (q : Queue) → FollowsWhole k (fill store places buffer now p) q
unfolding step Calls.fill checked refused_or filled_with made_of passed_at enter entered ledger entries
follows_fill k store places buffer now p q = let h = go (first_refusal (fill_checks store places buffer now p.limit q)) in record { options_kept = h.0; whole_follows = h.1.0; whole_right = (refl, h.1.1) }
  where
    r : Filling
    r = filling store places now p.limit q

    -- By what the call shows.
    By : Step → Type 0
    By s =
        let a = is_refused s.outcome.answer in let cs = (if a then [] else separate_calls store places now r.sizes) in let l = (if a then view k q else view k q) in
        (s.next.options ≡ q.options) × ((view k s.next ≡ ledger (rule q) k (entries cs q) l) × AllRight (rule q) k (entries cs q) l)

    fills : By (reply (filled [] 0) [] r.next)
    fills = let h = filling_follows (rule q) k store places now p.limit q refl in (filling_options k store places now p.limit q, (h.calls_follow, h.calls_right))

    past : (fs : List Fragment) (x : Option ℕ) → By (filled_with p q r fs x)
    past [] none = fills
    past [] (some n) = (refl, (refl, tt))
    past (f ∷ fs) x = fills

    go : (x : Option ℕ) → By (refused_or x q (filled_with p q r r.fragments r.refusal))
    go none = past r.fragments r.refusal
    go (some n) = (refl, (refl, tt))

follows_step : (k : ℕ) (c : Call) (q : Queue) → FollowsWhole k c q
unfolding step passed_at enter entered made_of
follows_step k (add store now m) q = by_itself k (add store now m) q refl (follows_add k store now m q) refl
follows_step k (produce store places buffer now size) q = by_itself k (produce store places buffer now size) q refl (follows_produce k store places buffer now size q) (ask_right (rule q) k store places buffer now size q refl)
follows_step k (fill store places buffer now p) q = follows_fill k store places buffer now p q
follows_step k (discard places s m) q = by_itself k (discard places s m) q refl (follows_discard k places s m q) refl
follows_step k (close places s) q = by_itself k (close places s) q refl (follows_close k places s q) refl
follows_step k ready_ids q = by_itself k ready_ids q refl (follows_ready k q) refl
follows_step k commit q = by_itself k commit q refl (follows_commit k q) refl
follows_step k rollback q = by_itself k rollback q refl (follows_rollback k q) refl
follows_step k reset q = by_itself k reset q refl (follows_reset k q) refl
follows_step k (set_threshold places s t) q = by_itself k (set_threshold places s t) q refl (follows_threshold k places s t q) refl
follows_step k (set_priority s p) q = by_itself k (set_priority s p) q refl (follows_priority k s p q) refl
follows_step k (set_interleaving b) q = by_itself k (set_interleaving b) q refl (follows_interleaving k b q) refl
follows_step k (restore store now image) q = by_itself k (restore store now image) q refl (follows_restore k store now image q) refl
follows_step k (ask_priority s) q = by_itself k (ask_priority s) q refl (record { same_options = refl; follows = refl }) refl
follows_step k (ask_amount s) q = by_itself k (ask_amount s) q refl (record { same_options = refl; follows = refl }) refl
follows_step k (ask_threshold s) q = by_itself k (ask_threshold s) q refl (record { same_options = refl; follows = refl }) refl
follows_step k ask_total q = by_itself k ask_total q refl (record { same_options = refl; follows = refl }) refl
follows_step k ask_empty q = by_itself k ask_empty q refl (record { same_options = refl; follows = refl }) refl
follows_step k ask_has_data q = by_itself k ask_has_data q refl (record { same_options = refl; follows = refl }) refl
follows_step k ask_streams_ready q = by_itself k ask_streams_ready q refl (record { same_options = refl; follows = refl }) refl
follows_step k ask_ready_count q = by_itself k ask_ready_count q refl (record { same_options = refl; follows = refl }) refl
follows_step k ask_readiness q = by_itself k ask_readiness q refl (record { same_options = refl; follows = refl }) refl
follows_step k (ask_room r) q = by_itself k (ask_room r) q refl (record { same_options = refl; follows = refl }) refl

-- ---- a list of calls, from any queue on

ledger_append : (strict : Bool) (k : ℕ) (es fs : List Entry) (l : Ledger) → ledger strict k (es ++ fs) l ≡ ledger strict k fs (ledger strict k es l)
unfolding ledger
ledger_append strict k [] fs l = refl
ledger_append strict k (e ∷ es) fs l = ledger_append strict k es fs (enter strict k e l)

right_append : (strict : Bool) (k : ℕ) (es fs : List Entry) (l : Ledger) → AllRight strict k es l → AllRight strict k fs (ledger strict k es l) → AllRight strict k (es ++ fs) l
unfolding ledger
right_append strict k [] fs l a b = b
right_append strict k (e ∷ es) fs l a b = (a.0, right_append strict k es fs (enter strict k e l) a.1 b)

same_rule : (k : ℕ) (c : Call) (q : Queue) → rule (step c q).next ≡ rule q
same_rule k c q = ap (λ (o : Options). o.strict_restart) (follows_step k c q).options_kept

run_follows : (strict : Bool) (k : ℕ) (cs : List Call) (q : Queue) → rule q ≡ strict → view k (after cs q) ≡ ledger strict k (history cs q) (view k q)
unfolding after ledger history
run_follows strict k [] q e = refl
run_follows strict k (c ∷ cs) q e =
    run_follows strict k cs (step c q).next (same_rule k c q ∙ e)
    ∙ ap (ledger strict k (history cs (step c q).next)) ((follows_step k c q).whole_follows ∙ ap (λ (b : Bool). ledger b k (whole c q) (view k q)) e)
    ∙ sym (ledger_append strict k (whole c q) (history cs (step c q).next) (view k q))

run_right : (strict : Bool) (k : ℕ) (cs : List Call) (q : Queue) → rule q ≡ strict → AllRight strict k (history cs q) (view k q)
unfolding history
run_right strict k [] q e = tt
run_right strict k (c ∷ cs) q e =
    let f = follows_step k c q in
    right_append strict k (whole c q) (history cs (step c q).next) (view k q)
    (subst (λ (b : Bool). AllRight b k (whole c q) (view k q)) e f.whole_right)
    (subst (AllRight strict k (history cs (step c q).next)) (f.whole_follows ∙ ap (λ (b : Bool). ledger b k (whole c q) (view k q)) e) (run_right strict k cs (step c q).next (same_rule k c q ∙ e)))

new_view : (k : ℕ) (o : Options) → view k (new_queue o) ≡ new_ledger
unfolding new_queue
new_view k o = ap (stream_view 0) (at_new o [] k (unfold find in refl))

pub request4_ledger : Request4Ledger
unfolding Request4Ledger
request4_ledger o cs k = run_follows o.strict_restart k cs (new_queue o) (unfold new_queue in refl) ∙ ap (ledger o.strict_restart k (history cs (new_queue o))) (new_view k o)

pub request4_passed : Request4Passed
unfolding Request4Passed
request4_passed o cs k = subst (AllRight o.strict_restart k (history cs (new_queue o))) (new_view k o) (run_right o.strict_restart k cs (new_queue o) (unfold new_queue in refl))
