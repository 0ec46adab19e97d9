-- `priority_plan::plan::least_plan` meets its contract: the streams from place i on have their priorities (`State`). Assumes nothing.
use mathlib.Core.Path.{refl}
use native.Mathlib.Omega.{arith}
use Rattle.priority_plan.proofs.Loops.{state_start, state_none, state_next, state_end}
use Rattle.priority_plan.specs.Least.{least_priority}
use Rattle.std.proofs.Common.{refl}
use Rattle.priority_plan.proofs.plan.least_plan.Goals as goal

pub loop-at-init : goal.loop-at-init
loop-at-init c = state_start _ _ _ c.requires

pub returns-then-priority-gt-MAX_PRIORITY : goal.returns-then-priority-gt-MAX_PRIORITY
returns-then-priority-gt-MAX_PRIORITY c = state_none _ _ _ c.requires _ _ _ _ _ _ _ _ _ c.loop-at.invariant c.loop-at-test.true refl refl refl c.bound_before-bound.ensures c.least_priority-priority.ensures (omega (arith, c.if-priority-gt-MAX_PRIORITY.true))

pub finish_time-finish-requires : goal.finish_time-finish-requires
unfolding least_priority
finish_time-finish-requires c = (c.requires.0.1, omega (arith, c.least_priority-priority.ensures))

pub loop-at-preserved : goal.loop-at-preserved
loop-at-preserved c = state_next _ _ _ c.requires _ _ _ _ _ _ _ _ _ c.loop-at.invariant c.loop-at-test.true refl refl refl c.bound_before-bound.ensures c.least_priority-priority.ensures _ (omega (arith, c.if-priority-gt-MAX_PRIORITY.false)) c.finish_time-finish.ensures

pub returns : goal.returns
returns c = state_end _ _ _ c.requires _ _ _ _ c.loop-at.invariant c.loop-at-test.false
