-- What the messages of an image need: bytes of the store, and streams that no record names. Assumes nothing.
use Rattle.std.specs.Prelude.{ℕ, zero, suc, ◌+◌, List, ltb}
use Rattle.queue_words.specs.Flags.{pick}
use Rattle.handover_records.specs.Records.{message_at}
use Rattle.image_rules.specs.Streams.{named}

-- The payload bytes of n message records from `at` on.
unfoldable pub payload_bytes_words : List ℕ → ℕ → ℕ → ℕ
payload_bytes_words bs at zero = 0
payload_bytes_words bs at (suc n) = (message_at bs at).length + payload_bytes_words bs (at + 44 + (message_at bs at).length) n

-- 1 for the first message of a stream that none of the records names; `least` is one above the id before.
unfoldable pub one_new : List ℕ → ℕ → ℕ → ℕ → ℕ
one_new bs records least id = pick (ltb id least) 0 (pick (named bs id 0 records) 0 1)

-- "the streams that only messages name": of n message records from `at` on.
unfoldable pub new_streams : List ℕ → ℕ → ℕ → ℕ → ℕ → ℕ
new_streams bs records at least zero = 0
new_streams bs records at least (suc n) =
    one_new bs records least (message_at bs at).id + new_streams bs records (at + 44 + (message_at bs at).length) ((message_at bs at).id + 1) n
