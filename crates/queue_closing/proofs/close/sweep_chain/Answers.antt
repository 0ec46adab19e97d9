-- `queue_closing::close::sweep_chain` meets its contract: what the dropping leaves from the start on is what it leaves from here on, and
-- the messages from here on may go. Assumes nothing.
use native.Mathlib.Omega.{arith}
use Rattle.queue_closing.proofs.Loops.{sweep_out, sweep_next, sweep_end, goes_here, goes_next}
use Rattle.queue_closing.proofs.close.sweep_chain.Goals as goal

pub returns-then-w-gt-LAST_MESSAGE : goal.returns-then-w-gt-LAST_MESSAGE
returns-then-w-gt-LAST_MESSAGE c = sweep_out _ _ _ 1024 _ _ _ _ c.loop-step.invariant.0 c.loop-step-test.true c.if-w-gt-LAST_MESSAGE.true

pub sweep_item-w-requires : goal.sweep_item-w-requires
sweep_item-w-requires c =
    let l = c.if-w-gt-LAST_MESSAGE.false in
    (omega (arith, l), goes_here _ _ 1024 _ c.loop-step.invariant.1 c.loop-step-test.true l)

pub loop-step-preserved : goal.loop-step-preserved
loop-step-preserved c =
    let h = c.loop-step-test.true in (
      sweep_next _ _ _ 1024 _ _ _ _ c.loop-step.invariant.0 _ _ _ h c.if-w-gt-LAST_MESSAGE.false c.sweep_item-w.ensures,
      goes_next _ _ 1024 _ c.loop-step.invariant.1 h c.if-w-gt-LAST_MESSAGE.false _ _ _ _ _ _ _ c.sweep_item-w.ensures,
    )

pub returns : goal.returns
returns c = sweep_end _ _ _ 1024 _ _ _ _ c.loop-step.invariant.0 c.loop-step-test.false
