-- What heads see after a strict reset (request 6/13): the first fragment of each stream starts a message, with numbers from zeroed counters. Assumes nothing.
use Rattle.std.specs.Prelude.{ℕ, true, List, [], ◌∷◌, ◌++◌, ◌≡◌}
use Rattle.queue_model.specs.Types.{Options, Queue, Fragment, done, Outcome}
use Rattle.queue_model.specs.Answers.{fragments_in, of_stream}
use Rattle.queue_model.specs.Run.{Call, reset, restore, step, run}
use Rattle.queue_model.specs.Packets.{NotFilling}
use Rattle.queue_model.specs.Demands.{Reachable, AllTyped}

-- "a message put back starts with FSN 0 and with numbers from the zeroed counters": a fragment that is the first of its message, with MID, SSN and FSN 0.
pub record Afresh (f : Fragment) : Type 0 where
  pub first : f.first ≡ true
  pub mid : f.mid ≡ 0
  pub ssn : f.ssn ≡ 0
  pub fsn : f.fsn ≡ 0

-- ------------------------------------------------------------------ the fragments of a stream

-- The fragments of stream k that calls have shown, in order.
unfoldable pub fragments : ℕ → List Outcome → List Fragment
fragments k [] = []
fragments k (o ∷ os) = of_stream k (fragments_in o.answer) ++ fragments k os

-- The first one, if any, starts afresh.
abbrev pub FirstAfresh : List Fragment → Type 0
FirstAfresh [] = Unit {0}
FirstAfresh (f ∷ fs) = Afresh f

-- ------------------------------------------------------------------ the claim

-- Any calls, but no accepted restoring, which gives streams the counters and the half-sent messages of an image. (It is refused on a queue that knows a
-- stream.) A filling stands in the list by the
-- calls for the next fragment that it is made of (document 02, 5/13).
abbrev pub NotRestored : Call → Queue → Type 0
NotRestored c q = ((store now : ℕ) (image : List ℕ) → c ≡ restore store now image → (step c q).outcome.answer ≡ done → ⊥) × NotFilling c

abbrev pub NoneRestored : List Call → Queue → Type 0
NoneRestored [] q = Unit {0}
NoneRestored (c ∷ cs) q = NotRestored c q × NoneRestored cs (step c q).next

-- The reset is accepted, and the first fragment of stream k after it starts afresh, whatever calls come between.
pub record Restarts (k : ℕ) (cs : List Call) (q : Queue) : Type 0 where
  pub accepted : (step reset q).outcome.answer ≡ done
  pub starts : FirstAfresh (fragments k (run cs (step reset q).next))

-- "Newer head firmware follows RFC 8260 strictly after a peer restart: a message put back starts with FSN 0 and with numbers from the zeroed counters."
-- Of every stream id and any calls, on every
-- queue whose creation chose the strict rule.
unfoldable pub Request6Starts : Type 0
unfolding step fragments run
Request6Starts = (o : Options) (q : Queue) (cs : List Call) (k : ℕ) → o.strict_restart ≡ true → Reachable o q → AllTyped cs → NoneRestored cs (step reset q).next → Restarts k cs q
