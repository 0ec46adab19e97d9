-- `receiver_words::window::pass` meets its contract: what is left to pass from here is what was to pass. Assumes nothing.
use mathlib.Core.Path.{refl}
use Rattle.receiver_words.specs.Window.{pass_all}
use Rattle.receiver_words.proofs.Steps.{pass_stop, pass_on, pass_end}
use Rattle.receiver_words.proofs.window.pass.Goals as goal

pub loop-init : goal.loop-init
unfolding pass_all
loop-init c = refl

pub returns-then-not-on : goal.returns-then-not-on
returns-then-not-on c = pass_stop _ _ _ _ _ _ c.loop-test.true c.next_number-u.ensures c.load_ahead-on.ensures c.if-not-on.true c.loop.invariant

pub loop-preserved : goal.loop-preserved
loop-preserved c = pass_on _ _ _ _ _ _ _ c.loop-test.true c.next_number-u.ensures c.load_ahead-on.ensures c.if-not-on.false c.store_ahead.ensures c.loop.invariant

pub returns : goal.returns
returns c = pass_end _ _ _ _ c.loop-test.false c.loop.invariant
