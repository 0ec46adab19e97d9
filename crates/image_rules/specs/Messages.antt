-- The rules of the message records. Document 01, "The changeover image"; document 02, 6/13, for a queue of the strict rule. Assumes nothing.
use Rattle.std.specs.Prelude.{ℕ, zero, suc, ◌+◌, ◌-◌, ◌/◌, ◌%◌, Bool, true, false, not, List, eqb, ltb, leb}
use Rattle.queue_words.specs.Flags.{pick}
use Rattle.handover_records.specs.Records.{message_at}
use Rattle.handover_records.specs.declared.records.HandoverStreamMessage.{HandoverStreamMessage}

-- "no other bit", "zero 1", "at most 2,147,483,647", "Payload length is 1 to 262,144 and offset below it."
unfoldable pub numbers_right : HandoverStreamMessage → Bool
numbers_right m =
    pick (ltb 7 m.flags) false
    (pick (eqb m.zero 0)
    (pick (ltb 2147483647 m.ms_left) false
    (pick (ltb m.length 1) false
    (pick (ltb 262144 m.length) false
    (ltb m.offset m.length)))) false)

-- "Fields not given are 0."
unfoldable pub lifetime_right : HandoverStreamMessage → Bool
lifetime_right m = pick (eqb (m.flags / 4 % 2) 1) true (eqb m.ms_left 0)

-- "Fields not given are 0." "Without MID, the SSN, offset and FSN are 0." "Only a stream's first message has a MID".
unfoldable pub mid_right : HandoverStreamMessage → Bool → Bool
mid_right m head =
    pick (eqb (m.flags / 2 % 2) 1) head
    (pick (eqb m.mid 0)
    (pick (eqb m.ssn 0)
    (pick (eqb m.offset 0) (eqb m.fsn 0) false) false) false)

-- "an unordered one has SSN 0".
unfoldable pub order_right : HandoverStreamMessage → Bool
order_right m = pick (eqb (m.flags % 2) 1) (eqb m.ssn 0) true

-- The rules of one message record; `head` says that it is its stream's first.
unfoldable pub message_right_words : HandoverStreamMessage → Bool → Bool
message_right_words m head =
    pick (numbers_right m) (pick (lifetime_right m) (pick (mid_right m head) (order_right m) false) false) false

-- "by rising stream, in queue order": n records from `at` on fill the `left` bytes of their part. `least` is the id that would be a new stream's: one
-- above the last
-- record's, 0 before the first.
unfoldable pub messages_right_words : List ℕ → ℕ → ℕ → ℕ → ℕ → Bool
messages_right_words bs at left least zero = eqb left 0
messages_right_words bs at left least (suc n) =
    pick (ltb left 44) false
    (pick (ltb (left - 44) (message_at bs at).length) false
    (pick (ltb ((message_at bs at).id + 1) least) false
    (pick (message_right_words (message_at bs at) (leb least (message_at bs at).id))
    (messages_right_words bs (at + 44 + (message_at bs at).length) (left - 44 - (message_at bs at).length) ((message_at bs at).id + 1) n) false)))

-- ------------------------------------------------------------------ the strict rule

-- 13. Document 02, 6/13: "Strict restoring answers 13 also to a MID on a message at offset 0."
unfoldable pub mid_early : Bool → HandoverStreamMessage → Bool
mid_early strict m = pick strict (pick (eqb (m.flags / 2 % 2) 1) (eqb m.offset 0) false) false

-- Whether one of n records from `at` on has such a MID.
unfoldable pub any_early : Bool → List ℕ → ℕ → ℕ → Bool
any_early strict bs at zero = false
any_early strict bs at (suc n) = pick (mid_early strict (message_at bs at)) true (any_early strict bs (at + 44 + (message_at bs at).length) n)

-- The rules of one message record for a queue that is strict or not.
unfoldable pub message_kept : Bool → HandoverStreamMessage → Bool → Bool
message_kept strict m head = pick (mid_early strict m) false (message_right_words m head)

-- The rules of the message records for such a queue.
unfoldable pub messages_kept : Bool → List ℕ → ℕ → ℕ → ℕ → ℕ → Bool
messages_kept strict bs at left least n = pick (messages_right_words bs at left least n) (not (any_early strict bs at n)) false
