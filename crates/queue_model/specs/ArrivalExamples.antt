-- Ledgers of stream 5 after short histories, by computation. Assumes nothing.
use Rattle.std.specs.Prelude.{ℕ, Bool, true, false, List, [], ◌∷◌, ◌≡◌, refl}
use Rattle.std.proofs.Math.Option.{Option, none, some}
use Rattle.queue_model.specs.Types.{Item, not_paused, paused, Counters, Options, Message}
use Rattle.queue_model.specs.Streams.{new_queue, zero_counters}
use Rattle.queue_model.specs.Run.{Call, add, produce, fill, close, reset}
use Rattle.queue_model.specs.Chunks.{padding}
use Rattle.queue_model.specs.History.{history}
use Rattle.queue_model.specs.Arrivals.{Ledger, new_ledger, ledger}

-- A payload limit of 2 bytes; the rule of a restart is the Rust's or the strict one.
options : Bool → Options
options strict = record { payload_limit = 2; store_length = 9; default_priority = 256; default_threshold = 0; total_threshold = 0; handover_with_data = true; strict_restart = strict }

message : ℕ → Option ℕ → List ℕ → Message
message s t bytes = record { stream_id = s; ppid = 0; unordered = false; max_retransmissions = none; lifetime = t; lifecycle_id = 0; payload = bytes }

-- A message that waits, with its MID, its FSN and how many bytes of it were sent.
item : ℕ → Option ℕ → ℕ → ℕ → List ℕ → Item
item m mid fsn sent bytes = record { message_id = m; ppid = 0; unordered = false; max_retransmissions = 65535; expires_at = none; lifecycle_id = 0; payload = bytes; offset = sent; mid = mid; ssn = 0; fsn = fsn }

-- The counters once one ordered message has its numbers.
one_numbered : Counters
one_numbered = record { next_ssn = 1; next_unordered_mid = 0; next_ordered_mid = 1 }

after_calls : Bool → List Call → Ledger
unfolding ledger history new_queue options
after_calls strict cs = ledger strict 5 (history cs (new_queue (options strict))) new_ledger

asks : ℕ → Call
asks now = produce 9 2305 2 now 2

-- 3 bytes on stream 5, 1 on stream 3, 1 on stream 5. The first next fragment is stream 3's (equal finish times, the smaller id), the second has 2 bytes
-- of stream 5's head.
two_wait : List Call
unfolding message asks
two_wait = add 9 0 (message 5 none (1 ∷ 2 ∷ 3 ∷ [])) ∷ add 9 0 (message 3 none (4 ∷ [])) ∷ add 9 0 (message 5 none (5 ∷ [])) ∷ asks 0 ∷ asks 0 ∷ []

two_waiting : after_calls false two_wait ≡ record { next_id = 3; state = not_paused; counters = one_numbered; messages = item 0 (some 0) 1 2 (1 ∷ 2 ∷ 3 ∷ []) ∷ item 2 none 0 0 (5 ∷ []) ∷ [] }
unfolding after_calls two_wait item one_numbered
two_waiting = refl

-- 2 of 3 bytes of a message with lifetime 0 are sent, its stream is closed, a message is added behind it. The next fragment 1 ms later passes over it:
-- "the stream becomes paused, its later messages
-- wait".
closed_expired : List Call
unfolding message asks
closed_expired = add 9 0 (message 5 (some 0) (1 ∷ 2 ∷ 3 ∷ [])) ∷ asks 0 ∷ close 2305 5 ∷ add 9 0 (message 5 none (5 ∷ [])) ∷ asks 1000000 ∷ []

expiry_pauses : after_calls false closed_expired ≡ record { next_id = 2; state = paused; counters = one_numbered; messages = item 1 none 0 0 (5 ∷ []) ∷ [] }
unfolding after_calls closed_expired item one_numbered
expiry_pauses = refl

-- 2 of 3 bytes are sent; a reset puts them back, by the Rust's rule with the numbers, by the strict one without.
model_put_back : List Call
unfolding message asks
model_put_back = add 9 0 (message 5 none (1 ∷ 2 ∷ 3 ∷ [])) ∷ asks 0 ∷ reset ∷ []

numbers_kept : after_calls false model_put_back ≡ record { next_id = 1; state = not_paused; counters = zero_counters; messages = item 0 (some 0) 1 0 (1 ∷ 2 ∷ 3 ∷ []) ∷ [] }
unfolding after_calls model_put_back item
numbers_kept = refl

numbers_removed : after_calls true model_put_back ≡ record { next_id = 1; state = not_paused; counters = zero_counters; messages = item 0 none 0 0 (1 ∷ 2 ∷ 3 ∷ []) ∷ [] }
unfolding after_calls model_put_back item
numbers_removed = refl

-- A filling: a packet of 64 bytes takes stream 3's message and 2 bytes of stream 5's, each of them "one call for the next fragment".
filled_two : List Call
unfolding message
filled_two = add 9 0 (message 5 none (1 ∷ 2 ∷ 3 ∷ [])) ∷ add 9 0 (message 3 none (4 ∷ [])) ∷ fill 9 2305 64 0 (record { limit = 64; source_port = 1; destination_port = 2; verification_tag = 3; tsn = 4 }) ∷ []

filling_enters : after_calls false filled_two ≡ record { next_id = 2; state = not_paused; counters = one_numbered; messages = item 0 (some 0) 1 2 (1 ∷ 2 ∷ 3 ∷ []) ∷ [] }
unfolding after_calls filled_two item one_numbered padding
filling_enters = refl
