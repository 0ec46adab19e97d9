-- `owned_streams::questions::any_paused` meets its contract: what is asked is whether a stream is paused from position i on. Assumes nothing.
use mathlib.Core.Path.{◌≡◌}
use Prim.Native.Nat.{◌-◌}
use Rattle.queue_questions.specs.Questions.{ready_among}
use Rattle.owned_streams.proofs.questions.any_paused.Given as goal

abbrev pub invariant-loop-i : goal.invariant-loop-i
invariant-loop-i l = ready_among l.queue 0 l.n ≡ ready_among l.queue l.i (l.n - l.i)
