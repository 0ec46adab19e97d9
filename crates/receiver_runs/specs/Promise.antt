-- Request 7/13 on the code: from a send queue's calls, by 1/13's writer, to what the receiver's calls hand out. Assumes nothing.
use Rattle.std.specs.Prelude.{ℕ, ◌+◌, ◌%◌, ◌^◌, ◌<◌, ◌≡◌, Bool, List, [], ◌∷◌, map, length, take, get_or}
use Rattle.queue_model.specs.Types as plain
use Rattle.queue_model.specs.Streams.{waiting}
use Rattle.chunks.specs.ChunkWritten.{ChunkWritten}
use Rattle.chunks.specs.ChunkWritten as write
use Rattle.chunks.specs.Writing.{Outcome, write_chunk}
use Rattle.packets.specs.Filling as packets
use Rattle.linked_sending.specs.Meaning.{data_of}
use Rattle.receiver_model.specs.Types.{Message}
use Rattle.receiver_model.specs.Run.{came_out}
use Rattle.receiver_model.specs.Claim as model
use Rattle.receiver_model.specs.Claim.{Move, arrivals, AllAccepted, AllArrive}
use Rattle.receiver_model.specs.Sender.{no_fragment, Undisturbed, Arrived}
use Rattle.receiver_words.specs.Chunks.{kind_of}
use Rattle.receiver_fragments.specs.Fetched as fetch_answer
use Rattle.queue_runs.specs.Calls as queue
use Rattle.queue_runs.specs.Calls.{Bytes}
use Rattle.queue_runs.specs.Run.{State}
use Rattle.queue_runs.specs.Run as queue_runs
use Rattle.queue_runs.specs.Meaning as queue_meaning
use Rattle.queue_runs.specs.Meaning.{queue_of, calls_of}
use Rattle.queue_runs.specs.Creation as queue_creation
use Rattle.queue_runs.specs.Creation.{Arguments, new_state}
use Rattle.receiver_runs.specs.Calls.{own, Call, receive, fetch, fetched, Shown}
use Rattle.receiver_runs.specs.Run.{step, run, after, new_receiver_words, Creates}
use Rattle.receiver_runs.specs.Meaning.{answers_of}
use Rattle.receiver_runs.specs.Sender.{Piece, pieces_in, messages_in}

-- ------------------------------------------------------------------ the sender

-- The model's fragment as it is handed out.
abbrev pub piece_of : plain.Fragment → Piece
piece_of f = record { fragment = data_of f; payload = f.bytes }

-- What calls on a new queue, created in q, show.
abbrev pub shown_by : Arguments → State → List queue.Call → List queue.Shown
shown_by a q cs = queue_runs.run cs (new_state a q)

-- "all fragments [..] of a new queue", in order; and the messages queued.
abbrev pub sent_by_words : Arguments → State → List queue.Call → List Piece
sent_by_words a q cs = pieces_in (shown_by a q cs)

abbrev pub queued_by_words : Arguments → State → List queue.Call → List plain.Message
queued_by_words a q cs = messages_in cs (shown_by a q cs)

-- "fewer than 2^31, of a new queue that sent every message whole, had no drop, reset, close or restore"; "For DATA the sender had interleaving off throughout."
pub record Sends (i_data : Bool) (a : Arguments) (q : State) (cs : List queue.Call) : Type 0 where
  pub creates : queue_creation.Creates a q
  pub typed : queue_meaning.AllTyped cs
  pub undisturbed : Undisturbed (kind_of i_data) (calls_of (length q.store) cs) (queue_of (new_state a q))
  pub whole : waiting (queue_of (queue_runs.after cs (new_state a q))).streams ≡ 0
  pub few : length (sent_by_words a q cs) < 2 ^ 31

-- ------------------------------------------------------------------ feeding

-- What is done with the receiver: the fragment with an index arrives, as a chunk written into a lent output; or a message is fetched into a lent buffer.
pub data Feed : Type 0 where
  arrive : (index : ℕ) (output : List ℕ) → Feed
  take_out : (buffer : List ℕ) → Feed

-- "Feed it as chunks": by 1/13's writer; "numbered its TSNs consecutively from the starting TSN".
abbrev pub write_of : Bool → ℕ → List Piece → ℕ → List ℕ → Outcome
write_of i_data start ps i out = write_chunk out (packets.kind_of i_data) ((start + i) % 2 ^ 32) (get_or ps i (piece_of no_fragment)).fragment (get_or ps i (piece_of no_fragment)).payload

-- The bytes that writing told, and that it was not refused.
abbrev pub bytes_told : ChunkWritten → List ℕ → List ℕ
bytes_told (write.Bytes n) out = take n out
bytes_told (write.Refused n) out = []

abbrev pub Told : ChunkWritten → Type 0
Told (write.Bytes n) = Unit {0}
Told (write.Refused n) = ⊥

abbrev pub written : Outcome → List ℕ
written o = bytes_told o.answer o.output

-- "with the store as left".
abbrev pub call_for : Bool → ℕ → List Piece → Feed → Call
call_for i_data start ps (arrive i out) = receive own (written (write_of i_data start ps i out))
call_for i_data start ps (take_out out) = fetch own out

abbrev pub calls_for : Bool → ℕ → List Piece → List Feed → List Call
calls_for i_data start ps fs = map (call_for i_data start ps) fs

-- Only fragments that were sent arrive, and each could be written as a chunk (a payload above 65,515 bytes or an output too short is refused).
abbrev pub Fed : Bool → ℕ → List Piece → Feed → Type 0
Fed i_data start ps (arrive i out) = (i < length ps) × (Told (write_of i_data start ps i out).answer × Bytes (written (write_of i_data start ps i out)))
Fed i_data start ps (take_out out) = Bytes out

abbrev pub AllFed : Bool → ℕ → List Piece → List Feed → Type 0
AllFed i_data start ps [] = Unit {0}
AllFed i_data start ps (f ∷ fs) = Fed i_data start ps f × AllFed i_data start ps fs

-- The model's move.
abbrev pub move_of : Feed → Move
move_of (arrive i out) = model.arrive i
move_of (take_out out) = model.take (length out)

-- Which fragments arrived: "in any arrival order with repeats".
abbrev pub arrived : List Feed → List ℕ
arrived fs = arrivals (map move_of fs)

-- What the receiver, created in s, shows; and the receiver after it.
abbrev pub fed_shown : Bool → ℕ → List Piece → State → List Feed → List Shown
fed_shown i_data start ps s fs = run (calls_for i_data start ps fs) (new_receiver_words i_data start s)

abbrev pub fed_after : Bool → ℕ → List Piece → State → List Feed → State
fed_after i_data start ps s fs = after (calls_for i_data start ps fs) (new_receiver_words i_data start s)

-- The messages that came out, their payload from the fetching buffer.
abbrev pub came_out_words : List Shown → List Message
came_out_words os = came_out (answers_of os)

-- ------------------------------------------------------------------ the promise

-- "Feed it as chunks all fragments [..] of a new queue [..] in any arrival order with repeats, and fetch until none is ready, with the store as left:
-- unless one is refused, each message
-- comes out exactly once and those ordered in a stream come in queueing order."
abbrev pub Request7 : Type 0
Request7 =
    (i_data : Bool) (start : ℕ) (a : Arguments) (q : State) (cs : List queue.Call) (s : State) (fs : List Feed) (buffer : List ℕ)
    → Sends i_data a q cs → Creates i_data start s → AllFed i_data start (sent_by_words a q cs) fs → AllArrive (length (sent_by_words a q cs)) (arrived fs)
    → AllAccepted (answers_of (fed_shown i_data start (sent_by_words a q cs) s fs))
    → (step (fetch own buffer) (fed_after i_data start (sent_by_words a q cs) s fs)).shows.answer ≡ fetched fetch_answer.NoneReady
    → Arrived (queued_by_words a q cs) (came_out_words (fed_shown i_data start (sent_by_words a q cs) s fs))
