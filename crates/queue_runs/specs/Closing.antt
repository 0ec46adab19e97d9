-- The job closer's theorem (request 3/13), on the words and the store that the calls leave: a closed stream sends its half-sent message and drops the rest; then its id is among the ready ids until
-- they are asked for; it never hangs. Document 02: "RFC 8831 wants a closed channel's stream reset once its messages are delivered or abandoned. A job that closes while its half-sent profile
-- expires must not hang." Assumes nothing.
use Rattle.std.specs.Prelude.{ℕ, ◌≤◌, ◌<◌, ◌≡◌, Bool, true, false, List, [], ◌∷◌, ◌++◌, eqb, length, take}
use Rattle.std.proofs.Math.Option.{Option, none, some}
use Rattle.types.specs.Keys.{key_id}
use Rattle.queue_words.specs.Flags.{pick}
use Rattle.queue_model.specs.Logic.{any}
use Rattle.queue_model.specs.Types.{Item, expired}
use Rattle.queue_model.specs.Streams.{stream_at}
use Rattle.queue_model.specs.Closing.{half_sent, alone, unsent, FurtherOn, Pending, Paused}
use Rattle.queue_model.specs.Waiting.{is_waiting}
use Rattle.queue_model.specs.FairTurns.{Open}
use Rattle.queue_questions.specs.Questions.{total_of}
use Rattle.queue_sending.specs.Produced.{Produced}
use Rattle.queue_sending.specs.Produced as produced
use Rattle.queue_runs.specs.Calls.{NotFilling, Call, produce, discard, close, ready_ids, reset, Typed, Answer, called, sent, filled, readied, number, flag, count, truth, Shown}
use Rattle.queue_runs.specs.Run.{State, step, run, after}
use Rattle.queue_runs.specs.Meaning.{queue_of, AllTyped}
use Rattle.queue_runs.specs.Creation.{Arguments}
use Rattle.queue_runs.specs.Refusals.{refusal}
use Rattle.queue_runs.specs.Demand3.{Reached}

-- ------------------------------------------------------------------ the ready ids

-- The ids that an answer tells.
abbrev pub ids_in : Answer → List ℕ
ids_in (called a) = []
ids_in (sent a) = []
ids_in (filled a) = []
ids_in (readied r) = take r.count r.ids
ids_in (number a) = []
ids_in (flag a) = []
ids_in (count n) = []
ids_in (truth b) = []

-- Whether it tells k.
abbrev pub tells : ℕ → Shown → Bool
tells k o = any (eqb k) (ids_in o.answer)

-- "its id is among the ready ids until they are asked for": after these calls the ready ids, asked for now, tell it, or one of the calls has told it.
pub data Ready (k : ℕ) (s : State) (cs : List Call) : Type 0 where
  ready_now : tells k (step ready_ids (after cs s)).shows ≡ true → Ready k s cs
  told_before : any (tells k) (run cs s) ≡ true → Ready k s cs

-- ------------------------------------------------------------------ the fragments of a stream

-- What a fragment hands out: the bytes, which are at the lent buffer's start, of a message.
pub record Part : Type 0 where
  pub message : ℕ
  pub bytes : List ℕ

-- The fragment of stream k in an answer, if it is one.
abbrev pub part_sent : ℕ → Produced → List ℕ → List Part
part_sent k (produced.Nothing n) bs = []
part_sent k (produced.Fragment n d) bs = pick (eqb (key_id d.«data».stream_key).0 k) (record { message = d.message_id.0; bytes = take d.«data».length bs } ∷ []) []
part_sent k (produced.Refused n) bs = []

abbrev pub part_in : ℕ → Answer → List ℕ → List Part
part_in k (called a) bs = []
part_in k (sent a) bs = part_sent k a bs
part_in k (filled a) bs = []
part_in k (readied r) bs = []
part_in k (number a) bs = []
part_in k (flag a) bs = []
part_in k (count n) bs = []
part_in k (truth b) bs = []

-- The fragments of stream k that calls have shown, in order.
unfoldable pub parts : ℕ → List Shown → List Part
parts k [] = []
parts k (o ∷ os) = part_in k o.answer o.buffer ++ parts k os

-- All are of the message m; and their bytes, joined.
abbrev pub AllOf : ℕ → List Part → Type 0
AllOf m [] = Unit {0}
AllOf m (p ∷ ps) = (p.message ≡ m) × AllOf m ps

abbrev pub joined : List Part → List ℕ
joined [] = []
joined (p ∷ ps) = p.bytes ++ joined ps

-- ------------------------------------------------------------------ the course of a closing

-- The stream k goes on to send the message i: it is pending and waits, the ready ids do not tell it, and its first message is that one, half-sent. All fragments of the stream since are of it; their
-- bytes and the unsent ones are those that were to be sent.
pub record Sending (k : ℕ) (i : Item) (s : State) (ps : List Part) : Type 0 where
  pub first : Item
  pub pends : Pending k first (queue_of s)
  pub half_sent : 0 < first.offset
  pub waits : is_waiting k (queue_of s) ≡ true
  pub not_ready : tells k (step ready_ids s).shows ≡ false
  pub parts_of : AllOf i.message_id ps
  pub further : FurtherOn (joined ps) i first

-- A call that abandons it: a discard of it, or a next fragment asked for when it has expired.
pub data Abandons (k : ℕ) (i : Item) : Call → Type 0 where
  discards : (es : List ℕ) → Abandons k i (discard es k i.message_id)
  expires : (es bs : List ℕ) (time size : ℕ) → expired time i.expires_at ≡ true → Abandons k i (produce es bs time size)

-- "once its messages are delivered or abandoned": after some of the calls every byte had been handed out, or one of the calls abandons it and leaves the stream paused.
pub data Over (k : ℕ) (i : Item) (s : State) (cs : List Call) : Type 0 where
  delivered : (before behind : List Call) → cs ≡ before ++ behind → AllOf i.message_id (parts k (run before s)) → joined (parts k (run before s)) ≡ unsent i → Over k i s cs
  abandoned : (before : List Call) (c : Call) (behind : List Call) → cs ≡ before ++ c ∷ behind → Abandons k i c → Paused k (queue_of (step c (after before s)).next) → Over k i s cs

-- After these calls the stream goes on, or its message is over and the stream is ready.
pub data Course (k : ℕ) (i : Item) (s : State) (cs : List Call) : Type 0 where
  goes_on : Sending k i (after cs s) (parts k (run cs s)) → Course k i s cs
  is_over : Over k i s cs → Ready k s cs → Course k i s cs

-- "a remaining half-sent one makes the stream pending, none makes it paused".
abbrev pub CourseOf : ℕ → Option Item → State → List Call → Type 0
CourseOf k none s cs = Ready k s cs
CourseOf k (some i) s cs = Course k i s cs

-- ------------------------------------------------------------------ the claim

-- Any calls but a whole-queue reset, which "opens all streams". (Restoring is refused on a queue that knows a stream.) A filling stands in the list by the calls for the next fragment that it is made of
-- (document 02, 5/13).
abbrev pub NotReset : Call → Type 0
NotReset c = (c ≡ reset → ⊥) × NotFilling c

abbrev pub NoReset : List Call → Type 0
NoReset [] = Unit {0}
NoReset (c ∷ cs) = NotReset c × NoReset cs

-- Next fragments alone, none of them refused.
pub data Asks (s : State) : Call → Type 0 where
  asks : (es bs : List ℕ) (time size : ℕ) → refusal (step (produce es bs time size) s).shows.answer ≡ false → Asks s (produce es bs time size)

abbrev pub AllAsk : List Call → State → Type 0
AllAsk [] s = Unit {0}
AllAsk (c ∷ cs) s = Asks s c × AllAsk cs (step c s).next

-- An open stream is closed, and the call is not refused.
pub record Closes (a : Arguments) (len : ℕ) (es : List ℕ) (k : ℕ) (s : State) : Type 0 where
  pub reached : Reached a len s
  pub typed : Typed (close es k)
  pub opened : Open k (queue_of s)
  pub accepted : refusal (step (close es k) s).shows.answer ≡ false

-- What holds of the queue then, whose stream k had these messages:
-- of them it has the half-sent one alone;
-- after any calls it goes on with that one, or that one is over and the stream is ready;
-- it is ready as soon as a next fragment says that nothing waits;
-- and so it is after as many next fragments in a row as bytes wait in the queue.
pub record Closed (k : ℕ) (is : List Item) (s : State) : Type 0 where
  pub drops_the_rest : (stream_at (queue_of s) k).items ≡ alone (half_sent is)
  pub course : (cs : List Call) → AllTyped cs → NoReset cs → CourseOf k (half_sent is) s cs
  pub none_waits : (cs : List Call) (es bs : List ℕ) (time size n : ℕ) → AllTyped cs → NoReset cs → Typed (produce es bs time size)
      → (step (produce es bs time size) (after cs s)).shows.answer ≡ sent (produced.Nothing n) → Ready k s (cs ++ produce es bs time size ∷ [])
  pub never_hangs : (cs ps : List Call) → AllTyped cs → NoReset cs → AllTyped ps → AllAsk ps (after cs s) → total_of (after cs s).words ≤ length ps → Ready k s (cs ++ ps)

unfoldable pub Request3Closing : Type 0
unfolding parts any
Request3Closing = (a : Arguments) (len : ℕ) (es : List ℕ) (k : ℕ) (s : State) → Closes a len es k s → Closed k (stream_at (queue_of s) k).items (step (close es k) s).next
