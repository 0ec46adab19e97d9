-- The next fragment (Rust: produce, get_stream_to_produce_from). Assumes nothing.
use Rattle.std.specs.Prelude.{ℕ, zero, suc, ◌+◌, ◌-◌, min, Bool, true, false, List, [], ◌∷◌, ◌++◌, eqb, take, drop}
use Rattle.std.proofs.Math.Option.{Option, none, some, get_or}
use Rattle.types.specs.Wrap.{wrap_suc}
use Rattle.std.specs.Prelude.{if◌then◌else◌}
use Rattle.queue_model.specs.Table.{find, put}
use Rattle.queue_model.specs.Types.{Item, PauseState, not_paused, pending, paused, resetting, Counters, Stream, Active, Queue, Event, Fragment, fragment, nothing_waits, Step, refuse, reply, remaining, expired, with_items, model_with_pause, with_counters, with_numbers, with_state}
use Rattle.queue_model.specs.Scheduler.{remove_stream, set_bytes_remaining, peek, accept}
use Rattle.queue_model.specs.Streams.{find_stream, put_stream, waiting, head_size, weight_of, reschedule}
use Rattle.queue_model.specs.Refusals.{Check, checked, store_other, places_few, time_late, size_wrong, buffer_short, short_of, short_of_head}
use Rattle.queue_model.specs.Amounts.{sent_events, drop_head_events}

-- ------------------------------------------------------------------ the head of a stream

-- The first message of a stream, with its stream and what stands behind it.
pub data Head : Type 0 where
  no_head : Head
  head : Stream → Item → List Item → Head

unfoldable pub head_in : Stream → List Item → Head
head_in s [] = no_head
head_in s (i ∷ is) = head s i is

unfoldable pub head_of : Option Stream → Head
unfolding head_in
head_of none = no_head
head_of (some s) = head_in s s.items

-- The queue without a stream's head; the stream waits with what is behind it and stays as it was.
unfoldable pub drop_head : Queue → Stream → Item → List Item → Queue
unfolding put reschedule
drop_head q s i is =
    let s' = with_items s (s.amount - remaining i) is in
    with_state q (q.total - remaining i) (put_stream s' q.streams) (reschedule q.interleaving s' q.scheduler)

-- A head that is dropped, as expired or by a discard. "When a pending stream's message ends or is discarded, it is paused"; document 02, 3/13: "When a
-- pending stream's half-sent
-- head expires, the stream becomes paused, its later messages wait for commit, rollback, whole-queue reset or what else 01 lists as scheduling a paused
-- stream, and the choice goes
-- to the other streams." (A pending stream's head is always half-sent: `pending_half`, proofs/Invariant/Pending.) In any other state "A stream stays as
-- it was" and waits with what
-- is behind ("or a discard, schedules a paused stream").
unfoldable pub drop_in : PauseState → Queue → Stream → Item → List Item → Queue
unfolding drop_head put remove_stream
drop_in not_paused q s i is = drop_head q s i is
drop_in pending q s i is =
    with_state q (q.total - remaining i) (put_stream (model_with_pause paused (with_items s (s.amount - remaining i) is)) q.streams) (remove_stream s.id q.scheduler)
drop_in paused q s i is = drop_head q s i is
drop_in resetting q s i is = drop_head q s i is

-- ------------------------------------------------------------------ the choice

-- What one look at the scheduler's choice finds: nothing waits; the state is broken (16); an expired head, now dropped; or a head to send.
pub data Look : Type 0 where
  nothing : Look
  broken : Look
  dropped : Queue → List Event → Look
  chosen : Active → Stream → Item → List Item → Look

-- An expired head is dropped, half-sent or not; 16 where an amount would fall below 0.
unfoldable pub look_expired : Queue → Stream → Item → List Item → Look
unfolding short_of drop_in drop_head_events
look_expired q s i is = if short_of q s (remaining i) then broken else dropped (drop_in s.pause_state q s i is) (drop_head_events q s i)

-- 16: "The scheduler chose a stream with no waiting message".
unfoldable pub look_at : ℕ → Queue → Active → Head → Look
unfolding look_expired
look_at now q a no_head = broken
look_at now q a (head s i is) = if expired now i.expires_at then look_expired q s i is else chosen a s i is

unfoldable pub look_for : ℕ → Queue → Option Active → Look
unfolding look_at head_of find
look_for now q none = nothing
look_for now q (some a) = look_at now q a (head_of (find_stream a.stream_id q.streams))

unfoldable pub look : ℕ → Queue → Look
unfolding peek look_for
look now q = look_for now q (peek q.scheduler)

-- ------------------------------------------------------------------ the fragment

-- A message with its numbers, and the stream's counters after it.
pub record Numbered : Type 0 where
  pub item : Item
  pub counters : Counters

-- "ordered and unordered counting separately in each stream; only ordered ones get an SSN, others show 0".
unfoldable pub give_numbers : Bool → Counters → Item → Numbered
give_numbers true c i = record {
  item = with_numbers i (some c.next_unordered_mid) 0 i.fsn i.offset;
  counters = record { next_ssn = c.next_ssn; next_unordered_mid = wrap_suc 32 c.next_unordered_mid; next_ordered_mid = c.next_ordered_mid };
}
give_numbers false c i = record {
  item = with_numbers i (some c.next_ordered_mid) c.next_ssn i.fsn i.offset;
  counters = record { next_ssn = wrap_suc 16 c.next_ssn; next_unordered_mid = c.next_unordered_mid; next_ordered_mid = wrap_suc 32 c.next_ordered_mid };
}

-- "A message gets its MID when its first fragment is made": one that has a MID, also MID 0, keeps its numbers.
unfoldable pub numbered_in : Option ℕ → Counters → Item → Numbered
unfolding give_numbers
numbered_in none c i = give_numbers i.unordered c i
numbered_in (some m) c i = record { item = i; counters = c }

unfoldable pub numbered : Counters → Item → Numbered
unfolding numbered_in
numbered c i = numbered_in i.mid c i

-- The fragment of n bytes of a numbered message. "First means offset 0; last means that nothing remains. Only the last fragment shows the lifecycle id.
-- The fragment is
-- the part of the stored payload that starts at the offset."
unfoldable pub make_fragment : Stream → Item → ℕ → Fragment
make_fragment s i n =
    let end = eqb n (remaining i) in
    record {
      message_id = i.message_id;
      stream_id = s.id;
      unordered = i.unordered;
      ssn = i.ssn;
      mid = get_or i.mid 0;
      fsn = i.fsn;
      ppid = i.ppid;
      first = eqb i.offset 0;
      last = end;
      max_retransmissions = i.max_retransmissions;
      expires_at = i.expires_at;
      lifecycle_id = if end then i.lifecycle_id else 0;
      bytes = take n (drop i.offset i.payload);
    }

-- ------------------------------------------------------------------ handing out

-- "When a pending stream's message ends or is discarded, it is paused." (or expires: `drop_in`)
unfoldable pub end_pending : PauseState → PauseState
end_pending not_paused = not_paused
end_pending pending = paused
end_pending paused = paused
end_pending resetting = resetting

-- "a message behind it, unless the stream is now paused, then makes the stream begin anew": the bytes with which it waits, 0 for not.
unfoldable pub next_size : PauseState → List Item → ℕ
unfolding head_size
next_size not_paused is = head_size is
next_size pending is = head_size is
next_size paused is = 0
next_size resetting is = head_size is

-- The queue after a last fragment of n bytes: the message is gone.
unfoldable pub handed_out_last : Queue → Active → Stream → Item → List Item → ℕ → Queue
unfolding numbered put accept end_pending set_bytes_remaining next_size weight_of
handed_out_last q a s i is n =
    let p = end_pending s.pause_state in
    with_state q (q.total - n) (put_stream (model_with_pause p (with_items (with_counters (numbered s.counters i).counters s) (s.amount - n) is)) q.streams)
    (set_bytes_remaining s.id (next_size p is) (weight_of q.interleaving s) (accept a n q.scheduler))

-- A message after a fragment of n bytes that is not its last: "FSN grows by one a fragment".
unfoldable pub moved_on : Item → ℕ → Item
moved_on i n = with_numbers i i.mid i.ssn (wrap_suc 32 i.fsn) (i.offset + n)

-- The queue after any other fragment of n bytes.
unfoldable pub handed_out_part : Queue → Active → Stream → Item → List Item → ℕ → Queue
unfolding numbered moved_on put accept
handed_out_part q a s i is n =
    let v = numbered s.counters i in
    with_state q (q.total - n) (put_stream (with_items (with_counters v.counters s) (s.amount - n) (moved_on v.item n ∷ is)) q.streams)
    (accept a n q.scheduler)

unfoldable pub handed_out : Queue → Active → Stream → Item → List Item → ℕ → Queue
unfolding handed_out_last handed_out_part
handed_out q a s i is n = if eqb n (remaining i) then handed_out_last q a s i is n else handed_out_part q a s i is n

-- Hand out at most `size` bytes of the chosen message, after the events `es` of the drops before it. None: an amount, or what remains of the message,
-- would fall below 0.
unfoldable pub hand_out : ℕ → Queue → List Event → Active → Stream → Item → List Item → Option Step
unfolding short_of_head make_fragment numbered sent_events handed_out
hand_out size q es a s i is =
    let n = min a.bytes_remaining size in
    let sent = reply (fragment (make_fragment s (numbered s.counters i).item n)) (es ++ sent_events q s n) (handed_out q a s i is n) in
    if short_of_head q s i n then none else some sent

-- ------------------------------------------------------------------ passing over expired heads

-- What follows a look: `again` is the choice begun again, with a queue and the events so far.
unfoldable pub after_look : (Queue → List Event → Option Step) → ℕ → Queue → List Event → Look → Option Step
unfolding hand_out
after_look again size q es nothing = some (reply nothing_waits es q)
after_look again size q es broken = none
after_look again size q es (dropped q' ds) = again q' (es ++ ds)
after_look again size q es (chosen a s i is) = hand_out size q es a s i is

-- "An expired head of the chosen stream is dropped, half-sent or not, and the choice begins again; with no stream left the answer is that nothing waits,
-- and the drops
-- and their events stand." Each turn has one waiting message fewer, so as many turns as messages wait, and one, suffice. None: 16.
unfoldable pub pass_over : ℕ → ℕ → ℕ → Queue → List Event → Option Step
unfolding look after_look
pass_over zero now size q es = none
pass_over (suc turns) now size q es = after_look (λ (r : Queue) (ds : List Event). pass_over turns now size r ds) size q es (look now q)

-- ------------------------------------------------------------------ the call

abbrev pub produce_checks : ℕ → ℕ → ℕ → ℕ → ℕ → Queue → List Check
produce_checks store places buffer now size q = store_other store q ∷ places_few places ∷ time_late now ∷ size_wrong size ∷ buffer_short buffer size ∷ []

-- The next fragment of at most `size` bytes; the store, the event list and the fragment buffer are lent.
unfoldable pub produce : ℕ → ℕ → ℕ → ℕ → ℕ → Queue → Step
unfolding checked pass_over
produce store places buffer now size q =
    let s = get_or (pass_over (suc (waiting q.streams)) now size q []) (refuse q 16) in
    checked (produce_checks store places buffer now size q) q s
