-- The rules of the stream records. Document 01, "The changeover image". Assumes nothing.
use Rattle.std.specs.Prelude.{ℕ, zero, suc, ◌+◌, Bool, true, false, List, eqb, ltb}
use Rattle.queue_words.specs.Flags.{pick}
use Rattle.handover_records.specs.Records.{stream_at_words}
use Rattle.handover_records.specs.declared.records.HandoverOutgoingStream.{HandoverOutgoingStream}

-- "a stream with zero counters and the trailer's default priority has none" (no record).
unfoldable pub is_plain : HandoverOutgoingStream → ℕ → Bool
is_plain s d =
    pick (eqb s.next_ssn 0)
    (pick (eqb s.next_unordered_mid 0)
    (pick (eqb s.next_ordered_mid 0) (eqb s.priority d) false) false) false

-- "ids rise": n records from `at` on, with no id below `least`.
unfoldable pub streams_right_words : List ℕ → ℕ → ℕ → ℕ → ℕ → Bool
streams_right_words bs d at least zero = true
streams_right_words bs d at least (suc n) =
    pick (is_plain (stream_at_words bs at) d) false
    (pick (ltb (stream_at_words bs at).id least) false
    (streams_right_words bs d (at + 14) ((stream_at_words bs at).id + 1) n))

-- Whether one of n records from `at` on is of this stream.
unfoldable pub named : List ℕ → ℕ → ℕ → ℕ → Bool
named bs id at zero = false
named bs id at (suc n) = pick (eqb (stream_at_words bs at).id id) true (named bs id (at + 14) n)
