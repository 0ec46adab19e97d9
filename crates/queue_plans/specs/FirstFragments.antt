-- The order in which streams get their first fragments, by what the calls show. Assumes nothing.
use Rattle.std.specs.Prelude.{ℕ, Bool, true, false, ◌||◌, List, [], ◌∷◌}
use Rattle.std.proofs.Math.Option.{Option, none, some}
use Rattle.types.specs.Keys.{key_id}
use Rattle.queue_sending.specs.Produced.{Produced}
use Rattle.queue_sending.specs.Produced as produced
use Rattle.queue_runs.specs.Calls.{Answer, called, sent, filled, readied, number, flag, count, truth, Shown}
use Rattle.priority_plan.specs.Turns.{and_shown, ServedInTurn}

-- The stream of the fragment that an answer gives, and whether it says that nothing waits.
abbrev pub stream_sent : Produced → Option ℕ
stream_sent (produced.Nothing k) = none
stream_sent (produced.Fragment k d) = some (key_id d.«data».stream_key).0
stream_sent (produced.Refused n) = none

abbrev pub stream_of : Answer → Option ℕ
stream_of (called a) = none
stream_of (sent a) = stream_sent a
stream_of (filled a) = none
stream_of (readied r) = none
stream_of (number a) = none
stream_of (flag a) = none
stream_of (count n) = none
stream_of (truth b) = none

abbrev pub nothing_sent : Produced → Bool
nothing_sent (produced.Nothing k) = true
nothing_sent (produced.Fragment k d) = false
nothing_sent (produced.Refused n) = false

abbrev pub says_nothing : Answer → Bool
says_nothing (called a) = false
says_nothing (sent a) = nothing_sent a
says_nothing (filled a) = false
says_nothing (readied r) = false
says_nothing (number a) = false
says_nothing (flag a) = false
says_nothing (count n) = false
says_nothing (truth b) = false

-- The streams of the fragments that the calls of a list show, in order; and whether a call finds that nothing waits.
unfoldable pub streams_shown : List Shown → List ℕ
streams_shown [] = []
streams_shown (o ∷ os) = and_shown (stream_of o.answer) (streams_shown os)

unfoldable pub ends : List Shown → Bool
ends [] = false
ends (o ∷ os) = says_nothing o.answer || ends os

-- "put those first fragments in that order": the streams of the list get theirs in turn.
abbrev pub InTurn : List ℕ → List Shown → Type 0
InTurn ids os = ServedInTurn ids (streams_shown os) (ends os)
