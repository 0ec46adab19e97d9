use mathlib.Core.Logic.{inl, inr}
use borrow.Author.Tests.{eq-eqb, le-ltb, lt-ltb, ne_eqb}
use Rattle.stream_scheduler.specs.Own.{can_wait}
use Rattle.stream_scheduler.proofs.can_wait.Goals as goal
use Rattle.stream_scheduler.proofs.can_wait.Goals.{then-bytes-eq0, else-bytes-eq0}

pub returns-then-at-n : goal.returns-then-at-n
unfolding can_wait
returns-then-at-n c =
    elim c.if-bytes-eq0.branch [
      | then-bytes-eq0 w ↦ rw (w.t-5-is, eq-eqb _ _ w.if-bytes-eq0.true)
      | else-bytes-eq0 w ↦ elim c.if-at-n.either [
        | inl p ↦ absurd (w.if-bytes-eq0.false p)
        | inr q ↦ rw (w.t-5-is, ne_eqb _ _ w.if-bytes-eq0.false, lt-ltb _ _ q.1)
      ]
    ]

pub returns-else-at-n : goal.returns-else-at-n
unfolding can_wait
returns-else-at-n c = rw (ne_eqb _ _ c.if-at-n.false.0, le-ltb _ _ c.if-at-n.false.1)
