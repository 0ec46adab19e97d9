-- Restoring an image (Rust: restore_from_state, over the reader of the image). Document 01, "The changeover image". Assumes nothing.
use Rattle.std.specs.Prelude.{ℕ, ◌+◌, ◌*◌, Bool, true, false, not, ◌&&◌, ◌||◌, List, [], ◌∷◌, map, eqb, ltb, length}
use Rattle.std.proofs.Math.Option.{Option, none, some}
use Rattle.std.specs.Prelude.{if◌then◌else◌}
use Rattle.queue_model.specs.Logic.{is_nil, any}
use Rattle.queue_model.specs.Table.{find, put}
use Rattle.queue_model.specs.Types.{Item, not_paused, Stream, Scheduler, Options, Queue, done, Step, refuse, reply}
use Rattle.queue_model.specs.Streams.{max_streams, max_messages, put_stream, at, waiting, occupied, amounts, has_items, reschedule_each, with_message}
use Rattle.queue_model.specs.Refusals.{Check, ◌when◌, checked, store_other, time_late, queue_used}
use Rattle.queue_model.specs.Image.{StreamRecord, MessageRecord, Handover}
use Rattle.queue_model.specs.Reader.{has_flag, read_image}

-- ------------------------------------------------------------------ the restored queue

-- "Restored streams are open, with default thresholds."
unfoldable pub restored_stream : Options → StreamRecord → Stream
restored_stream o r =
    record {
      id = r.id;
      priority = r.priority;
      pause_state = not_paused;
      counters = record { next_ssn = r.next_ssn; next_unordered_mid = r.next_unordered_mid; next_ordered_mid = r.next_ordered_mid };
      amount = 0;
      threshold = o.default_threshold;
      items = [];
    }

unfoldable pub restore_streams : Options → List StreamRecord → List Stream
unfolding restored_stream
restore_streams o rs = map (restored_stream o) rs

-- A number that is given, or none.
unfoldable pub give : Bool → ℕ → Option ℕ
give true n = some n
give false n = none

-- A message as its record restores it at a time. As in the Rust it expires at now + milliseconds left, with no millisecond more. The flag says whether
-- there is a MID,
-- so MID 0 is one.
unfoldable pub restored_item : ℕ → MessageRecord → Item
unfolding has_flag give
restored_item now r =
    record {
      message_id = r.message_id;
      ppid = r.ppid;
      unordered = has_flag 1 r.flags;
      max_retransmissions = r.max_retransmissions;
      expires_at = give (has_flag 4 r.flags) (now + r.ms_left * 1000000);
      lifecycle_id = r.lifecycle_id;
      payload = r.payload;
      offset = r.offset;
      mid = give (has_flag 2 r.flags) r.mid;
      ssn = r.ssn;
      fsn = r.fsn;
    }

-- A message put at its stream's end; a stream "that only messages name" is new, with the defaults.
unfoldable pub restore_message : Options → ℕ → MessageRecord → List Stream → List Stream
unfolding find put restored_item
restore_message o now r ss = put_stream (with_message (at o ss r.id) (restored_item now r)) ss

unfoldable pub restore_messages : Options → ℕ → List MessageRecord → List Stream → List Stream
unfolding restore_message
restore_messages o now [] ss = ss
restore_messages o now (r ∷ rs) ss = restore_messages o now rs (restore_message o now r ss)

-- Whether the first message is half-sent.
unfoldable pub half_sent_first : List Item → Bool
half_sent_first [] = false
half_sent_first (i ∷ is) = ltb 0 i.offset

-- "the stream whose first message is half-sent, the smallest id if several are": the streams stand in ascending order.
unfoldable pub first_half_sent : List Stream → Option ℕ
unfolding half_sent_first
first_half_sent [] = none
first_half_sent (s ∷ ss) = if half_sent_first s.items then some s.id else first_half_sent ss

-- Document 02, 10/13: "Restoring without interleaving shall remember the stream whose first message is half-sent, the smallest id if several are, and
-- send its rest first."
unfoldable pub remember_half_sent : Bool → List Stream → Scheduler → Scheduler
unfolding first_half_sent
remember_half_sent true ss sc = sc
remember_half_sent false ss sc = record { payload_limit = sc.payload_limit; current = first_half_sent ss; system_time = sc.system_time; active = sc.active }

-- The queue that a handover record restores at a time: every stream with messages waits.
unfoldable pub restored : ℕ → Handover → Queue → Queue
unfolding restore_streams restore_messages reschedule_each has_items remember_half_sent
restored now h q =
    let ss = restore_messages q.options now h.messages (restore_streams q.options h.streams) in
    record { options = q.options; interleaving = q.interleaving; total = amounts ss; next_message_id = h.next_message_id; streams = ss; scheduler = remember_half_sent q.interleaving ss (reschedule_each q.interleaving has_items ss q.scheduler) }

-- ------------------------------------------------------------------ the call

-- 13. Document 02, 6/13: "Strict restoring answers 13 also to a MID on a message at offset 0."
unfoldable pub mid_too_early : Bool → MessageRecord → Bool
unfolding has_flag
mid_too_early strict r = strict && has_flag 2 r.flags && eqb r.offset 0

abbrev pub rule_broken : Handover → Queue → Check
rule_broken h q = 13 when any (mid_too_early q.options.strict_restart) h.messages

-- 14. "The image's default priority is not the queue's."
abbrev pub priority_other : Handover → Queue → Check
priority_other h q = 14 when not (eqb h.default_priority q.options.default_priority)

-- 15. "The image, with the streams that only messages name, passes 256 streams, 1,024 messages or the store." Judged on the queue r that it restores.
abbrev pub image_large : Queue → Check
image_large r = 15 when ltb max_streams (length r.streams) || ltb max_messages (waiting r.streams) || ltb r.options.store_length (occupied r.streams)

abbrev pub record_checks : ℕ → Queue → Handover → List Check
record_checks now q h = rule_broken h q ∷ priority_other h q ∷ image_large (restored now h q) ∷ []

-- 13. "The image breaks a rule below.": judged on the whole image before 14 and 15.
unfoldable pub restore_read : ℕ → Queue → Option Handover → Step
unfolding checked restored any mid_too_early
restore_read now q none = refuse q 13
restore_read now q (some h) = checked (record_checks now q h) q (reply done [] (restored now h q))

abbrev pub restore_checks : ℕ → ℕ → Queue → List Check
restore_checks store now q = store_other store q ∷ time_late now ∷ queue_used q ∷ []

-- Restore an image; the store is lent.
unfoldable pub restore : ℕ → ℕ → List ℕ → Queue → Step
unfolding checked is_nil read_image restore_read
restore store now image q = let s = restore_read now q (read_image image) in checked (restore_checks store now q) q s
