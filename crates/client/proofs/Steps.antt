-- Two messages through the model's queue, for any payloads. Assumes nothing.
use mathlib.Core.Path.{◌≡◌, refl, ap, ◌∙◌}
use mathlib.Core.Bool.{false}
use mathlib.Core.List.{List, [], ◌∷◌}
use mathlib.Core.Option.{Option, none, some}
use Prim.Native.Nat.{ℕ, suc, ◌+◌, ◌-◌, ◌≤◌, ◌<◌}
use native.Mathlib.Omega.{arith}
use borrow.Author.Tests.{le-ltb}
use lib.ListN.{length, take, drop, length-drop}
use lib.Seq.{take_all}
use Rattle.queue_model.specs.Types.{Item, not_paused, Counters, Stream, round_robin, Active, Scheduler, Options, Queue, Event, done, Fragment, fragment, Step, reply}
use Rattle.queue_model.specs.Logic.{is_some}
use Rattle.queue_model.specs.Table.{find, put, without}
use Rattle.queue_model.specs.Scheduler.{cost, moved, scheduled, new_scheduler, forget, rest_time, remove_stream, start_of, set_bytes_remaining, comes_before, earlier, least, least_of, remembered, or_else, peek, remember, accept_last, accept_part}
use Rattle.queue_model.specs.Streams.{zero_counters, too_many, free_bytes, some_items, has_items, head_size, weight_of, reschedule, new_queue}
use Rattle.queue_model.specs.Refusals.{overflows}
use Rattle.queue_model.specs.Amounts.{sent_events}
use Rattle.queue_model.specs.Add.{expiry, new_item, starts_waiting, started, added, add_checks, add}
use Rattle.queue_model.specs.Produce.{head_in, head_of, look_at, look_for, look, give_numbers, numbered_in, numbered, make_fragment, end_pending, next_size, handed_out_last, moved_on, handed_out_part, hand_out, after_look, pass_over}
use Rattle.queue_model.specs.Run as run
use Rattle.queue_model.proofs.Checks.{checked_past}
use Rattle.queue_words.specs.declared.header.RestartRule.TheVariants.{Dcsctp}
use Rattle.linked_adding.specs.Create.{options_for}
use Rattle.linked_adding.specs.Message.{message_of_words}
use Rattle.client.specs.Carried.{plain_message}
use Rattle.client.proofs.Hands.{same_store, inside, small, waits_with, goes_on, ends, part_of, last_of, takes}

-- ---- what is shown

abbrev pub options : ℕ → Options
options len = options_for len 1200 256 0 0 false Dcsctp

-- A step that gives a fragment of these bytes and leaves this queue.
pub record Gives (s : Step) (bs : List ℕ) (q : Queue) : Type 0 where
  pub what : Fragment
  pub answer : s.outcome.answer ≡ fragment what
  pub bytes : what.bytes ≡ bs
  pub next : s.next ≡ q

-- On a new queue, the five calls one after the other: each is accepted, and the fragments' bytes are those of the messages a and b.
pub record Passes (len : ℕ) (a b : List ℕ) : Type 0 where
  pub q₁ : Queue
  pub q₂ : Queue
  pub q₃ : Queue
  pub q₄ : Queue
  pub q₅ : Queue
  pub add_one : run.step (run.add len 0 (message_of_words (plain_message 1) a)) (new_queue (options len)) ≡ reply done [] q₁
  pub add_two : run.step (run.add len 0 (message_of_words (plain_message 2) b)) q₁ ≡ reply done [] q₂
  pub take_one : (places room : ℕ) → 2305 ≤ places → 1200 ≤ room → Gives (run.step (run.produce len places room 0 1200) q₂) (take 1200 a) q₃
  pub take_two : (places room : ℕ) → 2305 ≤ places → 1200 ≤ room → Gives (run.step (run.produce len places room 0 1200) q₃) (drop 1200 a) q₄
  pub take_three : (places room : ℕ) → 2305 ≤ places → 1200 ≤ room → Gives (run.step (run.produce len places room 0 1200) q₄) b q₅

-- ---- what the queue holds

-- the message with id k: as it was added, and numbered, n bytes handed out
abbrev item : ℕ → List ℕ → Item
item k bs = record { message_id = k; ppid = 0; unordered = false; max_retransmissions = 65535; expires_at = none; lifecycle_id = 0; payload = bs; offset = 0; mid = none; ssn = 0; fsn = 0 }

abbrev begun : ℕ → List ℕ → ℕ → ℕ → Item
begun k bs n fsn = record { message_id = k; ppid = 0; unordered = false; max_retransmissions = 65535; expires_at = none; lifecycle_id = 0; payload = bs; offset = n; mid = some 0; ssn = 0; fsn = fsn }

abbrev one_begun : Counters
one_begun = record { next_ssn = 1; next_unordered_mid = 0; next_ordered_mid = 1 }

abbrev stream : ℕ → Counters → ℕ → List Item → Stream
stream id c n is = record { id = id; priority = 256; pause_state = not_paused; counters = c; amount = n; threshold = 0; items = is }

-- a stream that waits from a time on with n bytes
abbrev entry : ℕ → ℕ → ℕ → Active
entry id t n = record { stream_id = id; weight = round_robin; start = t; finish = suc t; bytes_remaining = n }

abbrev scheduler : Option ℕ → ℕ → List Active → Scheduler
scheduler current t as' = record { payload_limit = 1200; current = current; system_time = t; active = as' }

abbrev queue : ℕ → ℕ → ℕ → List Stream → Scheduler → Queue
queue len total k ss sc = record { options = options len; interleaving = false; total = total; next_message_id = k; streams = ss; scheduler = sc }

-- numbers as they come
less_none : (n : ℕ) → n - 0 ≡ n
less_none n = omega arith

none_more : (n : ℕ) → 0 + n ≡ n
none_more n = omega arith

gives : (s : Step) (f : Fragment) (es : List Event) (q : Queue) (bs : List ℕ) → s ≡ reply (fragment f) es q → f.bytes ≡ bs → Gives s bs q
gives s f es q bs e g = record { what = f; answer = ap (λ (x : Step). x.outcome.answer) e; bytes = g; next = ap (λ (x : Step). x.next) e }

module _ (len : ℕ) (a b : List ℕ) (most : len ≤ 2000000) (holds : length a + length b ≤ len) (long : 1200 < length a) (a_most : length a ≤ 2400) (b_some : 1 ≤ length b) (b_most : length b ≤ 1200) where
  -- the messages' streams and entries while they wait; of the first also with its first fragment handed out
  abbrev stream_a : Stream
  stream_a = stream 1 zero_counters (length a) (item 0 a ∷ [])

  abbrev stream_b : Stream
  stream_b = stream 2 zero_counters (length b) (item 1 b ∷ [])

  abbrev stream_rest : Stream
  stream_rest = stream 1 one_begun (length a - 1200) (begun 0 a 1200 1 ∷ [])

  abbrev entry_a : Active
  entry_a = entry 1 0 (length a)

  abbrev entry_b : Active
  entry_b = entry 2 0 (length b)

  abbrev entry_rest : Active
  entry_rest = entry 1 1 (length a - 1200)

  -- ---- the first message is added

  abbrev first_in : Queue
  first_in = queue len (length a) 1 (stream_a ∷ []) (scheduler none 0 (entry_a ∷ []))

  first_joins : added 0 (message_of_words (plain_message 1) a) (new_queue (options len)) ≡ first_in
  unfolding new_queue find put added new_item expiry started starts_waiting has_items some_items reschedule head_size weight_of new_scheduler scheduled cost start_of
  first_joins = rw (less_none (length a), none_more (length a), waits_with 1 (length a) (scheduler none 0 []) (omega arith))

  first_added : run.step (run.add len 0 (message_of_words (plain_message 1) a)) (new_queue (options len)) ≡ reply done [] first_in
  unfolding run.step new_queue add too_many free_bytes overflows
  first_added =
      checked_past (add_checks len 0 (message_of_words (plain_message 1) a) (new_queue (options len))) (new_queue (options len)) (reply done [] (added 0 (message_of_words (plain_message 1) a) (new_queue (options len))))
      (same_store len, (refl, (refl, (inside (length a) (omega arith) (omega arith), (refl, (refl, (le-ltb (len - 0) (length a) (omega arith), (small (0 + length a) (0 + length a) (omega arith) (omega arith), tt))))))))
      ∙ ap (reply done []) first_joins

  -- ---- and the second

  abbrev both_in : Queue
  both_in = queue len (length a + length b) 2 (stream_a ∷ stream_b ∷ []) (scheduler none 0 (entry_a ∷ entry_b ∷ []))

  second_joins : added 0 (message_of_words (plain_message 2) b) first_in ≡ both_in
  unfolding find put added new_item expiry started starts_waiting has_items some_items reschedule head_size weight_of scheduled cost start_of
  second_joins = rw (less_none (length b), none_more (length b), waits_with 2 (length b) (scheduler none 0 (entry_a ∷ [])) (omega arith))

  second_added : run.step (run.add len 0 (message_of_words (plain_message 2) b)) first_in ≡ reply done [] both_in
  unfolding run.step add too_many free_bytes overflows find is_some
  second_added =
      checked_past (add_checks len 0 (message_of_words (plain_message 2) b) first_in) first_in (reply done [] (added 0 (message_of_words (plain_message 2) b) first_in))
      (same_store len, (refl, (refl, (inside (length b) (omega arith) (omega arith), (refl, (refl, (le-ltb (len - (length a + 0 + 0)) (length b) (omega arith), (small (length a + length b) (0 + length b) (omega arith) (omega arith), tt))))))))
      ∙ ap (reply done []) second_joins

  -- ---- the first fragment: "the smallest finish time, then the smallest id"

  abbrev half_out : Queue
  half_out = queue len (length a + length b - 1200) 2 (stream_rest ∷ stream_b ∷ []) (scheduler (some 1) 1 (entry_rest ∷ entry_b ∷ []))

  one_chosen : pass_over 3 0 1200 both_in [] ≡ hand_out 1200 both_in [] entry_a stream_a (item 0 a) []
  unfolding pass_over look peek remembered least_of least earlier comes_before or_else look_for look_at head_of head_in after_look find
  one_chosen = refl

  one_leaves : handed_out_part both_in entry_a stream_a (item 0 a) [] 1200 ≡ half_out
  unfolding handed_out_part numbered numbered_in give_numbers moved_on accept_part moved cost scheduled remember put
  one_leaves = rw (goes_on entry_a 1200 (scheduler none 0 (entry_a ∷ entry_b ∷ [])) (omega arith))

  one_bytes : (make_fragment stream_a (begun 0 a 0 0) 1200).bytes ≡ take 1200 a
  unfolding make_fragment
  one_bytes = refl

  one_taken : (places room : ℕ) → 2305 ≤ places → 1200 ≤ room → Gives (run.step (run.produce len places room 0 1200) both_in) (take 1200 a) half_out
  unfolding numbered numbered_in give_numbers
  one_taken places room hp hr = gives _ _ _ _ _
      (takes len places room both_in _ refl hp hr (one_chosen ∙ part_of 1200 both_in [] entry_a stream_a (item 0 a) [] 1200 (omega arith) (omega arith) (omega arith) (omega arith))
      ∙ ap (reply (fragment (make_fragment stream_a (begun 0 a 0 0) 1200)) (sent_events both_in stream_a 1200)) one_leaves)
      one_bytes

  -- ---- the second: "the stream in mid-message if one is remembered"

  abbrev first_out : Queue
  first_out = queue len (length a + length b - 1200 - (length a - 1200)) 2 (stream 1 one_begun (length a - 1200 - (length a - 1200)) [] ∷ stream_b ∷ []) (scheduler none 2 (entry_b ∷ []))

  two_chosen : pass_over 3 0 1200 half_out [] ≡ hand_out 1200 half_out [] entry_rest stream_rest (begun 0 a 1200 1) []
  unfolding pass_over look peek remembered or_else look_for look_at head_of head_in after_look find
  two_chosen = refl

  two_leaves : handed_out_last half_out entry_rest stream_rest (begun 0 a 1200 1) [] (length a - 1200) ≡ first_out
  unfolding handed_out_last numbered numbered_in accept_last moved cost remove_stream without forget rest_time end_pending next_size head_size set_bytes_remaining put
  two_leaves = rw (ends entry_rest (length a - 1200) (scheduler (some 1) 1 (entry_rest ∷ entry_b ∷ [])) (omega arith))

  two_bytes : (make_fragment stream_rest (begun 0 a 1200 1) (length a - 1200)).bytes ≡ drop 1200 a
  unfolding make_fragment
  two_bytes = take_all (length a - 1200) (drop 1200 a) (simp length-drop (omega arith))

  two_taken : (places room : ℕ) → 2305 ≤ places → 1200 ≤ room → Gives (run.step (run.produce len places room 0 1200) half_out) (drop 1200 a) first_out
  unfolding numbered numbered_in
  two_taken places room hp hr = gives _ _ _ _ _
      (takes len places room half_out _ refl hp hr (two_chosen ∙ last_of 1200 half_out [] entry_rest stream_rest (begun 0 a 1200 1) [] (length a - 1200) (omega arith) (omega arith) (omega arith) refl)
      ∙ ap (reply (fragment (make_fragment stream_rest (begun 0 a 1200 1) (length a - 1200))) (sent_events half_out stream_rest (length a - 1200))) two_leaves)
      two_bytes

  -- ---- the third: only stream 2 waits

  three_chosen : pass_over 2 0 1200 first_out [] ≡ hand_out 1200 first_out [] entry_b stream_b (item 1 b) []
  unfolding pass_over look peek remembered least_of least or_else look_for look_at head_of head_in after_look find
  three_chosen = refl

  three_bytes : (make_fragment stream_b (numbered zero_counters (item 1 b)).item (length b)).bytes ≡ b
  unfolding make_fragment numbered numbered_in give_numbers
  three_bytes = take_all (length b) b (omega arith)

  three_taken : (places room : ℕ) → 2305 ≤ places → 1200 ≤ room → Gives (run.step (run.produce len places room 0 1200) first_out) b (handed_out_last first_out entry_b stream_b (item 1 b) [] (length b))
  three_taken places room hp hr = gives _ _ _ _ _
      (takes len places room first_out _ refl hp hr (three_chosen ∙ last_of 1200 first_out [] entry_b stream_b (item 1 b) [] (length b) (omega arith) (omega arith) (omega arith) (omega arith)))
      three_bytes

  pub passes : Passes len a b
  passes = record {
    q₁ = first_in;
    q₂ = both_in;
    q₃ = half_out;
    q₄ = first_out;
    q₅ = handed_out_last first_out entry_b stream_b (item 1 b) [] (length b);
    add_one = first_added;
    add_two = second_added;
    take_one = one_taken;
    take_two = two_taken;
    take_three = three_taken;
  }
