-- The account of a stream's bytes (request 11/13, first half), counted from the call history: what calls accept, hand out, drop, put back and restore.
-- Assumes nothing.
use Rattle.std.specs.Prelude.{ℕ, suc, ◌+◌, ◌-◌, true, false, List, [], ◌∷◌, ◌≡◌, refl, eqb, length}
use Rattle.std.proofs.Math.Option.{Option, none, some}
use Rattle.std.specs.Prelude.{if◌then◌else◌}
use Rattle.queue_model.specs.Close.{closing_bytes}
use Rattle.queue_model.specs.Table.{find}
use Rattle.queue_model.specs.Types.{Item, Active, Options, Queue, Answer, refused, done, number, flag, ids, fragment, nothing_waits, filled, remaining}
use Rattle.queue_model.specs.Answers.{is_refused}
use Rattle.queue_model.specs.Fill.{filling}
use Rattle.queue_model.specs.Passing.{passing}
use Rattle.queue_model.specs.Scheduler.{peek}
use Rattle.queue_model.specs.Streams.{stream_at, head_size, waiting, new_queue, amounts}
use Rattle.queue_model.specs.Reset.{model_put_back}
use Rattle.queue_model.specs.Questions.{amount_of}
use Rattle.queue_model.specs.Image.{MessageRecord, Handover}
use Rattle.queue_model.specs.Reader.{read_image}
use Rattle.queue_model.specs.Run.{Call, add, produce, fill, discard, close, ready_ids, commit, rollback, reset, set_threshold, set_priority, set_interleaving, restore, ask_priority, ask_amount, ask_threshold, ask_total, ask_empty, ask_has_data, ask_streams_ready, ask_ready_count, ask_readiness, ask_room, step, after}
use Rattle.queue_model.specs.Demands.{Created, AllTyped}
use Rattle.queue_model.specs.Calls

-- Payload bytes that calls moved in one stream: in are accepted, put back and left to send in an image; out are handed out and dropped.
pub record Account : Type 0 where
  pub accepted : ℕ
  pub handed_out : ℕ
  pub dropped_unsent : ℕ
  pub put_back_whole : ℕ
  pub left_to_send : ℕ

abbrev pub no_bytes : Account
no_bytes = record { accepted = 0; handed_out = 0; dropped_unsent = 0; put_back_whole = 0; left_to_send = 0 }

abbrev pub both : Account → Account → Account
both a b = record { accepted = a.accepted + b.accepted; handed_out = a.handed_out + b.handed_out; dropped_unsent = a.dropped_unsent + b.dropped_unsent; put_back_whole = a.put_back_whole + b.put_back_whole; left_to_send = a.left_to_send + b.left_to_send }

-- Bytes of stream s, counted for stream k only.
unfoldable pub for_stream : ℕ → ℕ → ℕ → ℕ
for_stream k s n = if eqb s k then n else 0

-- Bytes that move unless the call is refused.
abbrev pub unless_refused : Answer → ℕ → ℕ
unless_refused a n = if is_refused a then 0 else n

-- The bytes of a stream that an answer hands out; those of a filling are counted call by call.
abbrev pub handed : ℕ → Answer → ℕ
handed k (refused r) = 0
handed k done = 0
handed k (number m) = 0
handed k (flag b) = 0
handed k (ids ks) = 0
handed k (fragment f) = for_stream k f.stream_id (length f.bytes)
handed k nothing_waits = 0
handed k (filled bs n) = 0

-- The unsent bytes of the scheduler's choice.
unfoldable pub choice_bytes : ℕ → Queue → Option Active → ℕ
unfolding for_stream find head_size
choice_bytes k q none = 0
choice_bytes k q (some a) = for_stream k a.stream_id (head_size (stream_at q a.stream_id).items)

unfoldable pub choices_bytes : ℕ → List Queue → ℕ
unfolding choice_bytes peek
choices_bytes k [] = 0
choices_bytes k (q ∷ qs) = choice_bytes k q (peek q.scheduler) + choices_bytes k qs

-- The unsent bytes of the expired heads that the next fragment drops before it.
unfoldable pub passed : ℕ → ℕ → ℕ → Queue → ℕ
unfolding choices_bytes passing
passed k turns now q = choices_bytes k (passing turns now q)

-- The unsent bytes of a head with this message id.
unfoldable pub head_bytes : ℕ → List Item → ℕ
head_bytes m [] = 0
head_bytes m (i ∷ is) = if eqb i.message_id m then remaining i else 0

-- The bytes that message records leave to send in a stream.
unfoldable pub records_left : ℕ → List MessageRecord → ℕ
unfolding for_stream
records_left k [] = 0
records_left k (r ∷ rs) = for_stream k r.id (length r.payload - r.offset) + records_left k rs

unfoldable pub image_left : ℕ → Option Handover → ℕ
unfolding records_left
image_left k none = 0
image_left k (some h) = records_left k h.messages

-- What one call for the next fragment moves in stream k.
unfoldable pub produce_account : ℕ → ℕ → ℕ → ℕ → ℕ → ℕ → Queue → Account
unfolding Calls.produce for_stream passed
produce_account k store places buffer now size q =
    let a = (Calls.produce store places buffer now size q).outcome.answer in
    record { accepted = 0; handed_out = handed k a; dropped_unsent = unless_refused a (passed k (suc (waiting q.streams)) now q); put_back_whole = 0; left_to_send = 0 }

-- The same of a filling's calls, one for each size asked for (document 02, 5/13: "each of them one call for the next fragment").
unfoldable pub fill_account : ℕ → ℕ → ℕ → ℕ → List ℕ → Queue → Account
unfolding produce_account Calls.produce
fill_account k store places now [] q = no_bytes
fill_account k store places now (n ∷ ns) q = both (produce_account k store places n now n q) (fill_account k store places now ns (Calls.produce store places n now n q).next)

-- Nothing moves where a call is refused.
abbrev pub none_refused : Answer → Account → Account
none_refused a moved = if is_refused a then no_bytes else moved

-- What one call moves in stream k. "each counted from the call history": bytes accepted, handed out and left to send in an image are read off the call's
-- arguments and its answer alone. Unsent bytes of dropped
-- messages, and bytes put back, are read off the messages that wait when the call is made (their lengths and offsets), in the queue that the earlier
-- calls lead to. Which of
-- them it drops is told by the definitions that the call itself uses (`passing`, `closing_bytes`, `head_bytes`); no amount is counted. No single answer
-- shows them, and which expired heads a next fragment drops no list of
-- answers does: events tell it only where they have a lifecycle id.
unfoldable pub account : ℕ → Call → Queue → Account
unfolding step for_stream produce_account fill_account filling head_bytes closing_bytes image_left read_image find model_put_back
account k (add store now m) q = record { accepted = unless_refused (step (add store now m) q).outcome.answer (for_stream k m.stream_id (length m.payload)); handed_out = 0; dropped_unsent = 0; put_back_whole = 0; left_to_send = 0 }
account k (produce store places buffer now size) q = produce_account k store places buffer now size q
account k (fill store places buffer now p) q = none_refused (step (fill store places buffer now p) q).outcome.answer (fill_account k store places now (filling store places now p.limit q).sizes q)
account k (discard places s m) q = record { accepted = 0; handed_out = 0; dropped_unsent = unless_refused (step (discard places s m) q).outcome.answer (for_stream k s (head_bytes m (stream_at q s).items)); put_back_whole = 0; left_to_send = 0 }
account k (close places s) q = record { accepted = 0; handed_out = 0; dropped_unsent = unless_refused (step (close places s) q).outcome.answer (for_stream k s (closing_bytes (stream_at q s).pause_state (stream_at q s).items)); put_back_whole = 0; left_to_send = 0 }
account k ready_ids q = no_bytes
account k commit q = no_bytes
account k rollback q = no_bytes
account k reset q = record { accepted = 0; handed_out = 0; dropped_unsent = 0; put_back_whole = unless_refused (step reset q).outcome.answer (model_put_back (stream_at q k).items); left_to_send = 0 }
account k (set_threshold places s t) q = no_bytes
account k (set_priority s p) q = no_bytes
account k (set_interleaving b) q = no_bytes
account k (restore store now image) q = record { accepted = 0; handed_out = 0; dropped_unsent = 0; put_back_whole = 0; left_to_send = unless_refused (step (restore store now image) q).outcome.answer (image_left k (read_image image)) }
account k (ask_priority s) q = no_bytes
account k (ask_amount s) q = no_bytes
account k (ask_threshold s) q = no_bytes
account k ask_total q = no_bytes
account k ask_empty q = no_bytes
account k ask_has_data q = no_bytes
account k ask_streams_ready q = no_bytes
account k ask_ready_count q = no_bytes
account k ask_readiness q = no_bytes
account k (ask_room r) q = no_bytes

-- The same of a list of calls.
unfoldable pub accounts : ℕ → List Call → Queue → Account
unfolding account step
accounts k [] q = no_bytes
accounts k (c ∷ cs) q = both (account k c q) (accounts k cs (step c q).next)

-- "from a new queue, after any calls, a stream's amount is the payload bytes it accepted, less those handed out, less the unsent ones of dropped
-- messages, plus those put back and those left to send in an image it
-- restored, each counted from the call history; the total is the sum over the streams." Stated as amount + out = in, so that nothing hides in a
-- difference that stops at 0.
pub record Accounted (k : ℕ) (a : Account) (q : Queue) : Type 0 where
  pub amount_is : amount_of q k + (a.handed_out + a.dropped_unsent) ≡ a.accepted + (a.put_back_whole + a.left_to_send)
  pub total_is : q.total ≡ amounts q.streams

unfoldable pub Request11Account : Type 0
unfolding accounts after
Request11Account = (o : Options) (cs : List Call) (k : ℕ) → Created o → AllTyped cs → Accounted k (accounts k cs (new_queue o)) (after cs (new_queue o))

-- An example: 3 bytes accepted on stream 5, 2 sent, put back by a reset, 2 sent again, the last one discarded.
example_calls : List Call
example_calls =
    add 9 0 (record { stream_id = 5; ppid = 0; unordered = false; max_retransmissions = none; lifetime = none; lifecycle_id = 0; payload = 1 ∷ 2 ∷ 3 ∷ [] })
    ∷ produce 9 2305 2 0 2 ∷ reset ∷ produce 9 2305 2 0 2 ∷ discard 2305 5 0 ∷ []

unfoldable pub example_options : Options
example_options = record { payload_limit = 2; store_length = 9; default_priority = 256; default_threshold = 0; total_threshold = 0; handover_with_data = true; strict_restart = false }

account_example : accounts 5 example_calls (new_queue example_options) ≡ record { accepted = 3; handed_out = 4; dropped_unsent = 1; put_back_whole = 2; left_to_send = 0 }
unfolding accounts new_queue example_calls example_options
account_example = refl
