-- `queue_questions::questions::ready_among` meets its contract: what is asked is whether a stream is paused from position i on. Assumes nothing.
use mathlib.Core.Path.{◌≡◌}
use Prim.Native.Nat.{◌-◌}
use Rattle.queue_questions.specs.Questions.{ready_among}
use Rattle.queue_questions.proofs.questions.ready_among.Given as goal

-- `queue_questions::questions::ready_among` meets its contract: what is asked is whether a stream is paused from position i on. Assumes nothing.
abbrev pub invariant-loop-i : goal.invariant-loop-i
invariant-loop-i l = ready_among l.queue 0 l.n ≡ ready_among l.queue l.i (l.n - l.i)
