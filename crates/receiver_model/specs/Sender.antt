-- The send queue as the receiver's sender (document 02, 7/13): "all fragments, fewer than 2^31, of a new queue that sent every message whole, had no
-- drop, reset, close or restore and
-- numbered its TSNs consecutively from the starting TSN". Assumes nothing.
use Rattle.std.specs.Prelude.{ℕ, suc, ◌+◌, ◌%◌, ◌^◌, ◌≤◌, ◌<◌, ◌≡◌, Bool, true, false, not, ◌&&◌, List, [], ◌∷◌, ◌++◌, map, eqb, length, get_or}
use Rattle.std.proofs.Math.Option.{none}
use Rattle.std.specs.Prelude.{if◌then◌else◌}
use Rattle.queue_model.specs.Types as queue
use Rattle.queue_model.specs.Types.{Fragment, Options, Queue, refused, done, number, flag, ids, fragment, nothing_waits, filled}
use Rattle.queue_model.specs.Streams.{new_queue, waiting}
use Rattle.queue_model.specs.Refusals.{first_refusal}
use Rattle.queue_model.specs.Produce.{Look, nothing, broken, dropped, chosen, look, produce_checks}
use Rattle.queue_model.specs.Run as calls
use Rattle.queue_model.specs.Run.{add, produce, fill, discard, close, ready_ids, commit, rollback, reset, set_threshold, set_priority, set_interleaving, restore, ask_priority, ask_amount, ask_threshold, ask_total, ask_empty, ask_has_data, ask_streams_ready, ask_ready_count, ask_readiness, ask_room}
use Rattle.queue_model.specs.Demands.{Created, AllTyped}
use Rattle.receiver_model.specs.Lists.{count}
use Rattle.receiver_model.specs.Types.{Kind, DATA, I-DATA, Chunk, Message, none_ready}
use Rattle.receiver_model.specs.Receive.{new_receiver}
use Rattle.receiver_model.specs.Fetch as Fetch
use Rattle.receiver_model.specs.Run.{run, after, came_out}
use Rattle.receiver_model.specs.Claim.{Move, arrivals, AllAccepted, as_call, OnlySent, AllArrive}

-- ------------------------------------------------------------------ fragments as chunks

-- A fragment as its chunk is read (1/13): "a written fragment returns the same but for those fields at 0". DATA carries the SSN; I-DATA the MID, "and
-- the protocol id on a first fragment
-- or the FSN on others".
unfoldable pub as_chunk : Kind → ℕ → Fragment → Chunk
as_chunk DATA t f = record { kind = DATA; tsn = t; stream = f.stream_id; unordered = f.unordered; first = f.first; last = f.last; ssn = f.ssn; mid = 0; fsn = 0; ppid = f.ppid; bytes = f.bytes }
as_chunk I-DATA t f = record {
  kind = I-DATA;
  tsn = t;
  stream = f.stream_id;
  unordered = f.unordered;
  first = f.first;
  last = f.last;
  ssn = 0;
  mid = f.mid;
  fsn = if f.first then 0 else f.fsn;
  ppid = if f.first then f.ppid else 0;
  bytes = f.bytes;
}

-- What stands for a fragment or a message where a list has none.
abbrev pub no_fragment : Fragment
no_fragment = record { message_id = 0; stream_id = 0; unordered = false; ssn = 0; mid = 0; fsn = 0; ppid = 0; first = false; last = false; max_retransmissions = 0; expires_at = none; lifecycle_id = 0; bytes = [] }

abbrev pub no_message : queue.Message
no_message = record { stream_id = 0; ppid = 0; unordered = false; max_retransmissions = none; lifetime = none; lifecycle_id = 0; payload = [] }

-- The chunk of the fragment with an index, "numbered [..] consecutively from the starting TSN".
abbrev pub model_chunk_of : Kind → ℕ → List Fragment → ℕ → Chunk
model_chunk_of k start fs i = as_chunk k ((start + i) % 2 ^ 32) (get_or fs i no_fragment)

-- ------------------------------------------------------------------ what a queue takes and sends

-- The fragment that an answer shows.
unfoldable pub shown : queue.Answer → List Fragment
shown (refused n) = []
shown done = []
shown (number n) = []
shown (flag b) = []
shown (ids ns) = []
shown (fragment f) = f ∷ []
shown nothing_waits = []
shown (filled bs n) = []

-- The message that a call gives, if it was accepted.
unfoldable pub if_done : queue.Answer → queue.Message → List queue.Message
if_done (refused n) m = []
if_done done m = m ∷ []
if_done (number n) m = []
if_done (flag b) m = []
if_done (ids ns) m = []
if_done (fragment f) m = []
if_done nothing_waits m = []
if_done (filled bs n) m = []

unfoldable pub taken_in : calls.Call → queue.Answer → List queue.Message
unfolding if_done
taken_in (add store now m) a = if_done a m
taken_in (produce store places buffer now size) a = []
taken_in (fill store places buffer now p) a = []
taken_in (discard places s k) a = []
taken_in (close places s) a = []
taken_in ready_ids a = []
taken_in commit a = []
taken_in rollback a = []
taken_in reset a = []
taken_in (set_threshold places s t) a = []
taken_in (set_priority s p) a = []
taken_in (set_interleaving b) a = []
taken_in (restore store now image) a = []
taken_in (ask_priority s) a = []
taken_in (ask_amount s) a = []
taken_in (ask_threshold s) a = []
taken_in ask_total a = []
taken_in ask_empty a = []
taken_in ask_has_data a = []
taken_in ask_streams_ready a = []
taken_in ask_ready_count a = []
taken_in ask_readiness a = []
taken_in (ask_room r) a = []

-- All fragments that a list of calls sends, in order; and all messages that it queues.
unfoldable pub sent_by : List calls.Call → Queue → List Fragment
unfolding calls.step shown
sent_by [] q = []
sent_by (c ∷ cs) q = let s = calls.step c q in shown s.outcome.answer ++ sent_by cs s.next

unfoldable pub queued_by : List calls.Call → Queue → List queue.Message
unfolding calls.step taken_in
queued_by [] q = []
queued_by (c ∷ cs) q = let s = calls.step c q in taken_in c s.outcome.answer ++ queued_by cs s.next

-- ------------------------------------------------------------------ undisturbed runs

-- The choice of a next fragment drops no expired message.
abbrev pub NoDrop : Look → Type 0
NoDrop nothing = Unit {0}
NoDrop broken = Unit {0}
NoDrop (dropped q es) = ⊥
NoDrop (chosen a s i is) = Unit {0}

-- "For DATA the sender had interleaving off throughout."
abbrev pub MaySwitch : Kind → Bool → Type 0
MaySwitch DATA b = b ≡ false
MaySwitch I-DATA b = Unit {0}

-- "no drop, reset, close or restore": no next fragment that passes over an expired message, no discard that takes a message out. (Where no stream was
-- closed, asking for ready ids,
-- commit and rollback change nothing. A filling is the next fragments that it is made of, 5/13: they stand in its place.)
abbrev pub Undisturbing : Kind → calls.Call → Queue → Type 0
Undisturbing k (add store now m) q = Unit {0}
Undisturbing k (produce store places buffer now size) q = first_refusal (produce_checks store places buffer now size q) ≡ none → NoDrop (look now q)
Undisturbing k (fill store places buffer now p) q = ⊥
Undisturbing k (discard places s m) q = (calls.step (discard places s m) q).next ≡ q
Undisturbing k (close places s) q = ⊥
Undisturbing k ready_ids q = Unit {0}
Undisturbing k commit q = Unit {0}
Undisturbing k rollback q = Unit {0}
Undisturbing k reset q = ⊥
Undisturbing k (set_threshold places s t) q = Unit {0}
Undisturbing k (set_priority s p) q = Unit {0}
Undisturbing k (set_interleaving b) q = MaySwitch k b
Undisturbing k (restore store now image) q = ⊥
Undisturbing k (ask_priority s) q = Unit {0}
Undisturbing k (ask_amount s) q = Unit {0}
Undisturbing k (ask_threshold s) q = Unit {0}
Undisturbing k ask_total q = Unit {0}
Undisturbing k ask_empty q = Unit {0}
Undisturbing k ask_has_data q = Unit {0}
Undisturbing k ask_streams_ready q = Unit {0}
Undisturbing k ask_ready_count q = Unit {0}
Undisturbing k ask_readiness q = Unit {0}
Undisturbing k (ask_room r) q = Unit {0}

abbrev pub Undisturbed : Kind → List calls.Call → Queue → Type 0
Undisturbed k [] q = Unit {0}
Undisturbed k (c ∷ cs) q = Undisturbing k c q × Undisturbed k cs (calls.step c q).next

-- ------------------------------------------------------------------ the claim

-- A queued message as the receiver hands it out.
abbrev pub as_received : queue.Message → Message
as_received m = record { stream = m.stream_id; unordered = m.unordered; ppid = m.ppid; payload = m.payload }

-- Whether the message with a number is an ordered one of a stream.
abbrev pub ordered_of : List queue.Message → ℕ → ℕ → Bool
ordered_of ms s m = not (get_or ms m no_message).unordered && eqb (get_or ms m no_message).stream_id s

-- The ordered messages of a stream come with rising numbers, from `low` on.
abbrev pub in_order_if : Bool → (ℕ → Type 0) → ℕ → ℕ → Type 0
in_order_if true rest m low = (low ≤ m) × rest (suc m)
in_order_if false rest m low = rest low

abbrev pub InOrder : List queue.Message → ℕ → List ℕ → ℕ → Type 0
InOrder ms s [] low = Unit {0}
InOrder ms s (m ∷ more) low = in_order_if (ordered_of ms s m) (InOrder ms s more) m low

-- "each message comes out exactly once and those ordered in a stream come in queueing order": `order` are the places of what comes out among the
-- messages queued.
pub record Arrived (ms : List queue.Message) (out : List Message) : Type 0 where
  pub order : List ℕ
  pub are : out ≡ map (λ (m : ℕ). as_received (get_or ms m no_message)) order
  pub only : (m : ℕ) → 0 < count m order → m < length ms
  pub once : (m : ℕ) → m < length ms → count m order ≡ 1
  pub in_order : (s : ℕ) → InOrder ms s order 0

-- The promise of 7/13, from the send queue's calls to what the receiver hands out.
abbrev pub Delivers : Type 0
Delivers =
    (k : Kind) (start store : ℕ) (o : Options) (cs : List calls.Call) (moves : List Move)
    → Created o → AllTyped cs → Undisturbed k cs (new_queue o)
    → waiting (calls.after cs (new_queue o)).streams ≡ 0
    → length (sent_by cs (new_queue o)) < 2 ^ 31
    → OnlySent (length (sent_by cs (new_queue o))) (arrivals moves) → AllArrive (length (sent_by cs (new_queue o))) (arrivals moves)
    → AllAccepted (run (map (as_call (model_chunk_of k start (sent_by cs (new_queue o))) store) moves) (new_receiver k store start))
    → (Fetch.fetch store 0 (after (map (as_call (model_chunk_of k start (sent_by cs (new_queue o))) store) moves) (new_receiver k store start))).answer ≡ none_ready
    → Arrived (queued_by cs (new_queue o)) (came_out (run (map (as_call (model_chunk_of k start (sent_by cs (new_queue o))) store) moves) (new_receiver k store start)))

-- What holds at any time, before all has arrived: every message that came out was queued, none came out twice, and those ordered in a stream came in
-- queueing order.
pub record ArrivedSoFar (ms : List queue.Message) (out : List Message) : Type 0 where
  pub order : List ℕ
  pub are : out ≡ map (λ (m : ℕ). as_received (get_or ms m no_message)) order
  pub only : (m : ℕ) → 0 < count m order → m < length ms
  pub at_most_once : (m : ℕ) → count m order ≤ 1
  pub in_order : (s : ℕ) → InOrder ms s order 0

-- The promise at any time: whichever of the fragments have arrived.
abbrev pub DeliversSafely : Type 0
DeliversSafely =
    (k : Kind) (start store : ℕ) (o : Options) (cs : List calls.Call) (moves : List Move)
    → Created o → AllTyped cs → Undisturbed k cs (new_queue o)
    → waiting (calls.after cs (new_queue o)).streams ≡ 0
    → length (sent_by cs (new_queue o)) < 2 ^ 31
    → OnlySent (length (sent_by cs (new_queue o))) (arrivals moves)
    → AllAccepted (run (map (as_call (model_chunk_of k start (sent_by cs (new_queue o))) store) moves) (new_receiver k store start))
    → ArrivedSoFar (queued_by cs (new_queue o)) (came_out (run (map (as_call (model_chunk_of k start (sent_by cs (new_queue o))) store) moves) (new_receiver k store start)))
