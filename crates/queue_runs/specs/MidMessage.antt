-- The scheduler's shared condition on a stream in mid-message (document 02, 10/13), on the words and the store that the calls leave; and that the rest of its message is sent first. Assumes nothing.
use Rattle.std.specs.Prelude.{Some}
use Rattle.std.specs.Prelude.{ℕ, ◌<◌, ◌≡◌, true, false, List, ◌∷◌, length}
use Rattle.std.proofs.Math.Option.{Option, some}
use Rattle.types.specs.Keys.{key_id}
use Rattle.queue_words.specs.Header.{scheduler_at}
use Rattle.queue_model.specs.Types.{Item, Stream, expired}
use Rattle.queue_model.specs.Streams.{find_stream}
use Rattle.queue_model.specs.Image.{Handover}
use Rattle.queue_model.specs.Reader.{read_image}
use Rattle.queue_model.specs.Restore.{half_sent_first}
use Rattle.queue_model.specs.Waiting.{is_waiting}
use Rattle.queue_model.specs.MidMessage.{AtMostOne}
use Rattle.queue_sending.specs.declared.data.DataToSend.{DataToSend}
use Rattle.queue_sending.specs.Produced as produced
use Rattle.queue_runs.specs.Calls.{Call, add, produce, fill, discard, close, ready_ids, commit, rollback, reset, set_threshold, set_priority, set_interleaving, restore, ask_priority, ask_amount, ask_threshold, ask_total, ask_empty, ask_has_data, ask_streams_ready, ask_ready_count, ask_readiness, ask_room, Typed, sent}
use Rattle.queue_runs.specs.Run.{State, step}
use Rattle.queue_runs.specs.Meaning.{queue_of}
use Rattle.queue_runs.specs.Creation.{Arguments, new_state, Creates}
use Rattle.queue_runs.specs.Refusals.{refusal}

-- A call that does not switch interleaving on; what it restores is such (a refused restoring restores nothing), and fillings are let in or not.
abbrev pub Uninterleaved : Type 0 → (Option Handover → Type 0) → Call → State → Type 0
Uninterleaved F P (add time m payload) s = Unit {0}
Uninterleaved F P (produce es bs time size) s = Unit {0}
Uninterleaved F P (fill es bs time p) s = F
Uninterleaved F P (discard es id k) s = Unit {0}
Uninterleaved F P (close es id) s = Unit {0}
Uninterleaved F P ready_ids s = Unit {0}
Uninterleaved F P commit s = Unit {0}
Uninterleaved F P rollback s = Unit {0}
Uninterleaved F P reset s = Unit {0}
Uninterleaved F P (set_threshold es id t) s = Unit {0}
Uninterleaved F P (set_priority id p) s = Unit {0}
Uninterleaved F P (set_interleaving b) s = b ≡ false
Uninterleaved F P (restore time image) s = refusal (step (restore time image) s).shows.answer ≡ false → P (read_image image)
Uninterleaved F P (ask_priority id) s = Unit {0}
Uninterleaved F P (ask_amount id) s = Unit {0}
Uninterleaved F P (ask_threshold id) s = Unit {0}
Uninterleaved F P ask_total s = Unit {0}
Uninterleaved F P ask_empty s = Unit {0}
Uninterleaved F P ask_has_data s = Unit {0}
Uninterleaved F P ask_streams_ready s = Unit {0}
Uninterleaved F P ask_ready_count s = Unit {0}
Uninterleaved F P ask_readiness s = Unit {0}
Uninterleaved F P (ask_room r) s = Unit {0}

-- It restores no image with more than one half-sent message.
abbrev pub Uninterrupted : Call → State → Type 0
Uninterrupted c s = Uninterleaved (Unit {0}) AtMostOne c s

-- "a queue that never had interleaving, and was new or restored from an image with at most one half-sent message".
pub data NeverInterleaved (a : Arguments) (len : ℕ) : State → Type 0 where
  at_first : {before : State} → Creates a before → length before.store ≡ len → NeverInterleaved a len (new_state a before)
  later : {s : State} → NeverInterleaved a len s → (c : Call) → Typed c → Uninterrupted c s → NeverInterleaved a len (step c s).next

-- "a half-sent head on a waiting stream means that this stream is remembered"; the words have it.
unfoldable pub Request10Remembered : Type 0
Request10Remembered =
    (a : Arguments) (len : ℕ) (s : State) (k : ℕ) (x : Stream)
    → NeverInterleaved a len s → find_stream k (queue_of s).streams ≡ some x → half_sent_first x.items ≡ true → is_waiting k (queue_of s) ≡ true
    → (scheduler_at s.words).current ≡ Some (record { 0 = k })

-- What a fragment shows is of the message i of the stream k, and not its first one.
pub record RestOf (k : ℕ) (i : Item) (d : DataToSend) : Type 0 where
  pub its_stream : (key_id d.«data».stream_key).0 ≡ k
  pub its_message : d.message_id.0 ≡ i.message_id
  pub not_first : d.«data».is_beginning ≡ false

-- "and send its rest first": while a stream's first message is half-sent and has not expired, the next fragment is of it.
unfoldable pub Request10Rest : Type 0
Request10Rest =
    (a : Arguments) (len : ℕ) (s : State) (k : ℕ) (x : Stream) (i : Item) (is : List Item) (es bs : List ℕ) (time size n : ℕ) (d : DataToSend)
    → NeverInterleaved a len s → find_stream k (queue_of s).streams ≡ some x → x.items ≡ i ∷ is → 0 < i.offset → expired time i.expires_at ≡ false
    → Typed (produce es bs time size) → (step (produce es bs time size) s).shows.answer ≡ sent (produced.Fragment n d) → RestOf k i d
