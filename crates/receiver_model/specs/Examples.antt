-- Worked examples of the receiver, each computed from the definitions. Assumes nothing.
use Rattle.std.specs.Prelude.{ℕ, ◌≡◌, refl, Bool, true, false, List, [], ◌∷◌, map, length}
use Rattle.std.proofs.Math.Option.{none, some}
use Rattle.queue_model.specs.Types as queue
use Rattle.queue_model.specs.Types.{Options}
use Rattle.queue_model.specs.Streams.{new_queue, waiting}
use Rattle.queue_model.specs.Run as calls
use Rattle.queue_model.specs.Run.{add, produce, set_interleaving}
use Rattle.receiver_model.specs.Tsn.{is_after}
use Rattle.receiver_model.specs.Types.{Kind, DATA, I-DATA, Chunk, Message, refused, accepted, repeated, none_ready, fetched}
use Rattle.receiver_model.specs.Receive.{new_receiver, create_refusal}
use Rattle.receiver_model.specs.Run.{Call, receive, fetch, run, came_out}
use Rattle.receiver_model.specs.Claim.{Move, arrive, take, as_call}
use Rattle.receiver_model.specs.Sender.{as_chunk, model_chunk_of, sent_by, queued_by, as_received}

-- ------------------------------------------------------------------ chunks and messages

-- A DATA chunk with protocol id 7: TSN, stream, unordered, first, last, SSN, payload.
abbrev data_chunk : ℕ → ℕ → Bool → Bool → Bool → ℕ → List ℕ → Chunk
data_chunk t s u b e n p = record { kind = DATA; tsn = t; stream = s; unordered = u; first = b; last = e; ssn = n; mid = 0; fsn = 0; ppid = 7; bytes = p }

-- An I-DATA chunk, its protocol id 7 on a first fragment: TSN, stream, unordered, first, last, MID, FSN, payload.
abbrev i_data_chunk : ℕ → ℕ → Bool → Bool → Bool → ℕ → ℕ → List ℕ → Chunk
i_data_chunk t s u true e m n p = record { kind = I-DATA; tsn = t; stream = s; unordered = u; first = true; last = e; ssn = 0; mid = m; fsn = 0; ppid = 7; bytes = p }
i_data_chunk t s u false e m n p = record { kind = I-DATA; tsn = t; stream = s; unordered = u; first = false; last = e; ssn = 0; mid = m; fsn = n; ppid = 0; bytes = p }

abbrev message_of : ℕ → Bool → List ℕ → Message
message_of s u p = record { stream = s; unordered = u; ppid = 7; payload = p }

-- ------------------------------------------------------------------ DATA

-- Store 100, starting TSN 4,294,967,295. Two ordered messages on stream 5: TSNs 4,294,967,295 and 0, then TSN 1. The later one arrives first and waits;
-- the missing fragment makes both
-- ready; a fragment that comes again is a repeat, held or fetched.
abbrev two : List Call
two =
    receive 100 (some (data_chunk 1 5 false true true 1 (3 ∷ [])))
    ∷ receive 100 (some (data_chunk 0 5 false false true 0 (2 ∷ [])))
    ∷ receive 100 (some (data_chunk 0 5 false false true 0 (2 ∷ [])))
    ∷ fetch 100 9
    ∷ receive 100 (some (data_chunk 4294967295 5 false true false 0 (1 ∷ [])))
    ∷ fetch 100 9
    ∷ receive 100 (some (data_chunk 0 5 false false true 0 (2 ∷ [])))
    ∷ fetch 100 9
    ∷ fetch 100 9
    ∷ []

pub two_messages : run two (new_receiver DATA 100 4294967295) ≡ accepted ∷ accepted ∷ repeated ∷ none_ready ∷ accepted ∷ fetched (message_of 5 false (1 ∷ 2 ∷ [])) ∷ repeated ∷ fetched (message_of 5 false (3 ∷ [])) ∷ none_ready ∷ []
unfolding run new_receiver
two_messages = refl

-- "Unordered ones are ready when complete".
pub unordered_first : run (receive 100 (some (data_chunk 12 5 true true true 0 (3 ∷ []))) ∷ receive 100 (some (data_chunk 11 5 false true true 1 (2 ∷ []))) ∷ fetch 100 9 ∷ fetch 100 9 ∷ []) (new_receiver DATA 100 10)
    ≡ accepted ∷ accepted ∷ fetched (message_of 5 true (3 ∷ [])) ∷ none_ready ∷ []
unfolding run new_receiver
unordered_first = refl

-- "the earlier completed of equals; the number after it is then next": of two with SSN 0 the earlier completed is ready, the other waits.
pub equals : run (receive 100 (some (data_chunk 11 5 false true true 0 (1 ∷ []))) ∷ receive 100 (some (data_chunk 10 5 false true true 0 (2 ∷ []))) ∷ fetch 100 9 ∷ fetch 100 9 ∷ []) (new_receiver DATA 100 10)
    ≡ accepted ∷ accepted ∷ fetched (message_of 5 false (1 ∷ [])) ∷ none_ready ∷ []
unfolding run new_receiver
equals = refl

-- Of two that wait with SSN 1 the earlier completed is ready once SSN 0 is there; the other waits until the number comes round.
pub equals_wait : run (receive 100 (some (data_chunk 12 5 false true true 1 (1 ∷ []))) ∷ receive 100 (some (data_chunk 11 5 false true true 1 (2 ∷ []))) ∷ receive 100 (some (data_chunk 10 5 false true true 0 (3 ∷ []))) ∷ fetch 100 9 ∷ fetch 100 9 ∷ fetch 100 9 ∷ []) (new_receiver DATA 100 10)
    ≡ accepted ∷ accepted ∷ accepted ∷ fetched (message_of 5 false (3 ∷ [])) ∷ fetched (message_of 5 false (1 ∷ [])) ∷ none_ready ∷ []
unfolding run new_receiver
equals_wait = refl

-- ------------------------------------------------------------------ I-DATA

-- Two messages interleaved on streams 1 and 2; a fragment with a new TSN whose stream, order mark, MID and FSN are held is a repeat.
pub interleaved : run (
    receive 100 (some (i_data_chunk 20 1 false true false 0 0 (1 ∷ [])))
    ∷ receive 100 (some (i_data_chunk 21 2 false true false 0 0 (5 ∷ [])))
    ∷ receive 100 (some (i_data_chunk 23 2 false false true 0 1 (6 ∷ [])))
    ∷ receive 100 (some (i_data_chunk 24 2 false false true 0 1 (6 ∷ [])))
    ∷ receive 100 (some (i_data_chunk 22 1 false false true 0 1 (2 ∷ [])))
    ∷ fetch 100 9 ∷ fetch 100 9 ∷ fetch 100 9 ∷ []) (new_receiver I-DATA 100 20)
    ≡ accepted ∷ accepted ∷ accepted ∷ repeated ∷ accepted ∷ fetched (message_of 2 false (5 ∷ 6 ∷ [])) ∷ fetched (message_of 1 false (1 ∷ 2 ∷ [])) ∷ none_ready ∷ []
unfolding run new_receiver
interleaved = refl

-- ------------------------------------------------------------------ refusals

-- 2 at another store length, 19 for bytes that are no chunk and for the other kind, 22 from 1,025 past on, 23 for a payload above the free store, 24 for
-- another payload at a TSN held (also
-- where it would be a repeat), 10 for a short buffer; a refused call changes nothing.
pub refusals : run (
    receive 3 (some (data_chunk 10 5 false true true 0 (1 ∷ [])))
    ∷ receive 4 none
    ∷ receive 4 (some (i_data_chunk 10 5 false true true 0 0 (1 ∷ [])))
    ∷ receive 4 (some (data_chunk 1034 5 false true true 0 (1 ∷ [])))
    ∷ receive 4 (some (data_chunk 1033 5 false true true 1 (1 ∷ [])))
    ∷ receive 4 (some (data_chunk 10 5 false true true 0 (1 ∷ 2 ∷ 3 ∷ 4 ∷ [])))
    ∷ receive 4 (some (data_chunk 10 5 false true true 0 (1 ∷ 2 ∷ 3 ∷ [])))
    ∷ receive 4 (some (data_chunk 10 5 false true true 0 (1 ∷ 2 ∷ 4 ∷ [])))
    ∷ fetch 4 2
    ∷ fetch 3 9
    ∷ fetch 4 3
    ∷ receive 4 (some (data_chunk 10 5 false true true 0 (1 ∷ 2 ∷ 4 ∷ [])))
    ∷ fetch 4 9 ∷ fetch 4 9 ∷ []) (new_receiver DATA 4 10)
    ≡ refused 2 ∷ refused 19 ∷ refused 19 ∷ refused 22 ∷ accepted ∷ refused 23 ∷ accepted ∷ refused 24 ∷ refused 10 ∷ refused 2 ∷ fetched (message_of 5 false (1 ∷ 2 ∷ 3 ∷ [])) ∷ repeated ∷ fetched (message_of 5 false (1 ∷ [])) ∷ none_ready ∷ []
unfolding run new_receiver
refusals = refl

pub creation : (create_refusal 0 ≡ some 2) × (create_refusal 1 ≡ none) × (create_refusal 2000000 ≡ none) × (create_refusal 2000001 ≡ some 2)
unfolding create_refusal
creation = (refl, refl, refl, refl)

-- The ends of the range: 2^31 - 1 further on is after, 2^31 is not, 0 is not.
pub ends : (is_after 2147483647 0 ≡ true) × (is_after 2147483648 0 ≡ false) × (is_after 0 0 ≡ false) × (is_after 2147483646 4294967295 ≡ true) × (is_after 2147483647 4294967295 ≡ false)
unfolding is_after
ends = (refl, refl, refl, refl, refl)

-- ------------------------------------------------------------------ from a send queue

abbrev options : Options
options = record { payload_limit = 1000; store_length = 100; default_priority = 256; default_threshold = 0; total_threshold = 0; handover_with_data = true; strict_restart = false }

abbrev given : ℕ → Bool → List ℕ → queue.Message
given s u p = record { stream_id = s; ppid = 7; unordered = u; max_retransmissions = none; lifetime = none; lifecycle_id = 0; payload = p }

abbrev next : calls.Call
next = produce 100 2305 2 0 2

-- Three messages on two streams, sent in fragments of at most 2 bytes.
abbrev sending : List calls.Call
sending = add 100 0 (given 1 false (1 ∷ 2 ∷ 3 ∷ [])) ∷ add 100 0 (given 1 false (4 ∷ [])) ∷ add 100 0 (given 2 true (5 ∷ 6 ∷ 7 ∷ [])) ∷ next ∷ next ∷ next ∷ next ∷ next ∷ []

-- The fragments arrive in the order 4, 2, 3, 2, 0, 1 and come out whole, those of stream 1 in order.
abbrev arriving : List Move
arriving = arrive 4 ∷ arrive 2 ∷ arrive 3 ∷ arrive 2 ∷ take 9 ∷ arrive 0 ∷ arrive 1 ∷ take 9 ∷ take 9 ∷ take 9 ∷ []

abbrev out_of : Kind → List calls.Call → List Message
out_of k cs = came_out (run (map (as_call (model_chunk_of k 4294967294 (sent_by cs (new_queue options))) 100) arriving) (new_receiver k 100 4294967294))

pub from_queue_data : out_of DATA sending ≡ map as_received (given 2 true (5 ∷ 6 ∷ 7 ∷ []) ∷ given 1 false (1 ∷ 2 ∷ 3 ∷ []) ∷ given 1 false (4 ∷ []) ∷ [])
unfolding run new_receiver came_out sent_by new_queue as_chunk
from_queue_data = refl

-- The same with interleaving, as I-DATA; and all three were queued and sent whole.
pub from_queue_i_data : out_of I-DATA (set_interleaving true ∷ sending) ≡ map as_received (given 2 true (5 ∷ 6 ∷ 7 ∷ []) ∷ given 1 false (1 ∷ 2 ∷ 3 ∷ []) ∷ given 1 false (4 ∷ []) ∷ [])
unfolding run new_receiver came_out sent_by new_queue as_chunk
from_queue_i_data = refl

pub all_sent : (length (queued_by sending (new_queue options)) ≡ 3) × (length (sent_by sending (new_queue options)) ≡ 5) × (waiting (calls.after sending (new_queue options)).streams ≡ 0)
unfolding sent_by queued_by new_queue calls.after
all_sent = (refl, refl, refl)
