-- "If an answer is an enum, a definition states this paper's number and values for each case of the enum." The number is what a call returns (receiver_calls: specs/Answers). For C the
-- values stand in an array of 5 places: 0 the value, the others what goes with a message. Assumes nothing.
use Rattle.std.specs.Prelude.{ℕ, List, set}
use Rattle.queue_words.specs.Flags.{bit}
use Rattle.receiver_fragments.specs.declared.answers.Delivery.{Delivery}
use Rattle.receiver_fragments.specs.Received.{Received}
use Rattle.receiver_fragments.specs.Received as received
use Rattle.receiver_fragments.specs.Fetched.{Fetched}
use Rattle.receiver_fragments.specs.Fetched as fetched

-- 1 for accepted, 0 for a repeat
abbrev pub received_out : List ℕ → Received → List ℕ
received_out out (received.Refused n) = out
received_out out received.Repeated = set out 0 0
received_out out received.Accepted = set out 0 1

-- "stream, order mark, first fragment's protocol id, payload": its length; its bytes are at the buffer's start
abbrev pub message_out : List ℕ → Delivery → List ℕ
message_out out d = set (set (set (set (set out 0 1) 1 d.length) 2 d.stream.0) 3 (bit d.unordered)) 4 d.ppid

-- where none is ready the value is 0, and what goes with a message stays as it was
abbrev pub fetched_out : List ℕ → Fetched → List ℕ
fetched_out out (fetched.Refused n) = out
fetched_out out fetched.NoneReady = set out 0 0
fetched_out out (fetched.Message d) = message_out out d
