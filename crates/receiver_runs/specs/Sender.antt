-- What a send queue's calls queue and send, as they show it. Assumes nothing.
use Rattle.std.specs.Prelude.{ℕ, Bool, true, false, List, [], ◌∷◌, ◌++◌, take}
use Rattle.queue_words.specs.Flags.{pick}
use Rattle.queue_model.specs.Types as plain
use Rattle.queue_streams.specs.Call as call
use Rattle.queue_sending.specs.declared.data.DataToSend.{DataToSend}
use Rattle.queue_sending.specs.Produced.{Produced}
use Rattle.queue_sending.specs.Produced as produced
use Rattle.linked_adding.specs.Message.{message_of_words}
use Rattle.queue_runs.specs.Calls.{Call, add, produce, fill, discard, close, ready_ids, commit, rollback, reset, set_threshold, set_priority, set_interleaving, restore, ask_priority, ask_amount, ask_threshold, ask_total, ask_empty, ask_has_data, ask_streams_ready, ask_ready_count, ask_readiness, ask_room, Answer, called, sent, filled, readied, number, flag, count, truth, Shown}

-- ------------------------------------------------------------------ fragments

-- A fragment that a queue handed out: what goes with it, and its payload.
pub record Piece : Type 0 where
  pub fragment : DataToSend
  pub payload : List ℕ

-- The payload stands at the start of the lent buffer.
abbrev pub piece_sent : Produced → List ℕ → List Piece
piece_sent (produced.Nothing n) bs = []
piece_sent (produced.Fragment n d) bs = record { fragment = d; payload = take d.«data».length bs } ∷ []
piece_sent (produced.Refused n) bs = []

abbrev pub piece_in : Answer → List ℕ → List Piece
piece_in (called a) bs = []
piece_in (sent a) bs = piece_sent a bs
piece_in (filled a) bs = []
piece_in (readied r) bs = []
piece_in (number a) bs = []
piece_in (flag a) bs = []
piece_in (count n) bs = []
piece_in (truth b) bs = []

-- All fragments that a list of calls showed, in order.
unfoldable pub pieces_in : List Shown → List Piece
pieces_in [] = []
pieces_in (o ∷ os) = piece_in o.answer o.buffer ++ pieces_in os

-- ------------------------------------------------------------------ messages

abbrev pub is_accepted : Answer → Bool
is_accepted (called (call.Accepted n)) = true
is_accepted (called (call.Refused n)) = false
is_accepted (sent a) = false
is_accepted (filled a) = false
is_accepted (readied r) = false
is_accepted (number a) = false
is_accepted (flag a) = false
is_accepted (count n) = false
is_accepted (truth b) = false

-- The message that a call queues, if it was accepted.
abbrev pub message_in : Call → Answer → List plain.Message
message_in (add time m payload) a = pick (is_accepted a) (message_of_words m payload ∷ []) []
message_in (produce es bs time size) a = []
message_in (fill es bs time p) a = []
message_in (discard es id k) a = []
message_in (close es id) a = []
message_in ready_ids a = []
message_in commit a = []
message_in rollback a = []
message_in reset a = []
message_in (set_threshold es id t) a = []
message_in (set_priority id p) a = []
message_in (set_interleaving b) a = []
message_in (restore time image) a = []
message_in (ask_priority id) a = []
message_in (ask_amount id) a = []
message_in (ask_threshold id) a = []
message_in ask_total a = []
message_in ask_empty a = []
message_in ask_has_data a = []
message_in ask_streams_ready a = []
message_in ask_ready_count a = []
message_in ask_readiness a = []
message_in (ask_room r) a = []

-- All messages that a list of calls, which showed this, queued, in order.
unfoldable pub messages_in : List Call → List Shown → List plain.Message
messages_in [] os = []
messages_in (c ∷ cs) [] = []
messages_in (c ∷ cs) (o ∷ os) = message_in c o.answer ++ messages_in cs os
