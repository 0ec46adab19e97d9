-- What heads see after a strict reset (request 6/13), of the code's calls and of what they show: the first fragment of each stream starts a message, with numbers from zeroed counters. Assumes nothing.
use Rattle.std.specs.Prelude.{ℕ, ◌≡◌, true, false, List, [], ◌∷◌, ◌++◌, eqb}
use Rattle.types.specs.Keys.{key_id}
use Rattle.queue_words.specs.Flags.{pick}
use Rattle.queue_words.specs.declared.header.RestartRule.TheVariants.{Strict}
use Rattle.queue_streams.specs.Call as call
use Rattle.queue_sending.specs.declared.data.DataToSend.{DataToSend}
use Rattle.queue_runs.specs.Calls.{Call, NotFilling, reset, restore, called, Shown}
use Rattle.queue_runs.specs.Fragments.{data_in}
use Rattle.queue_runs.specs.Run.{State, step, run}
use Rattle.queue_runs.specs.Meaning.{AllTyped}
use Rattle.queue_runs.specs.Creation.{Arguments}
use Rattle.queue_runs.specs.Demand3.{Reached}
use Rattle.queue_runs.specs.Refusals.{refusal}

-- "a message put back starts with FSN 0 and with numbers from the zeroed counters": a fragment that is the first of its message, with MID, SSN and FSN 0.
pub record Afresh (d : DataToSend) : Type 0 where
  pub first : d.«data».is_beginning ≡ true
  pub mid : d.«data».mid.0 ≡ 0
  pub ssn : d.«data».ssn.0 ≡ 0
  pub fsn : d.«data».fsn.0 ≡ 0

-- ------------------------------------------------------------------ the fragments of a stream

-- Those of stream k.
abbrev pub of_stream_words : ℕ → List DataToSend → List DataToSend
of_stream_words k [] = []
of_stream_words k (d ∷ ds) = pick (eqb (key_id d.«data».stream_key).0 k) (d ∷ of_stream_words k ds) (of_stream_words k ds)

-- The fragments of stream k that calls have shown, in order.
unfoldable pub fragments : ℕ → List Shown → List DataToSend
fragments k [] = []
fragments k (o ∷ os) = of_stream_words k (data_in o.answer) ++ fragments k os

-- The first one, if any, starts afresh.
abbrev pub FirstAfresh : List DataToSend → Type 0
FirstAfresh [] = Unit {0}
FirstAfresh (d ∷ ds) = Afresh d

-- ------------------------------------------------------------------ the claim

-- Any calls, but no accepted restoring, which gives streams the counters and the half-sent messages of an image. (It is refused on a queue that knows a stream.) A filling stands in the list by the
-- calls for the next fragment that it is made of (document 02, 5/13).
abbrev pub NotRestored : Call → State → Type 0
NotRestored c s = ((time : ℕ) (image : List ℕ) → c ≡ restore time image → refusal (step c s).shows.answer ≡ false → ⊥) × NotFilling c

abbrev pub NoneRestored : List Call → State → Type 0
NoneRestored [] s = Unit {0}
NoneRestored (c ∷ cs) s = NotRestored c s × NoneRestored cs (step c s).next

-- The reset is accepted, and the first fragment of stream k after it starts afresh, whatever calls come between.
pub record Restarts (k : ℕ) (cs : List Call) (s : State) : Type 0 where
  pub accepted : (step reset s).shows.answer ≡ called (call.Accepted 0)
  pub starts : FirstAfresh (fragments k (run cs (step reset s).next))

-- "Newer head firmware follows RFC 8260 strictly after a peer restart: a message put back starts with FSN 0 and with numbers from the zeroed counters." Of every stream id and any calls, on every
-- queue whose creation chose the strict rule.
unfoldable pub Request6Starts : Type 0
unfolding fragments
Request6Starts = (a : Arguments) (len : ℕ) (s : State) (cs : List Call) (k : ℕ) → a.rule ≡ Strict → Reached a len s → AllTyped cs → NoneRestored cs (step reset s).next → Restarts k cs s
