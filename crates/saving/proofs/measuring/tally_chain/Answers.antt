-- `saving::measuring::tally_chain` meets its contract: what the pass finds from the start on is what it finds from here on. Assumes nothing.
use Rattle.saving.specs.Measure.{Small}
use Rattle.saving.proofs.Passing.{small_item}
use Rattle.saving.proofs.Loops.{chain_out, chain_next, chain_end}
use mathlib.Core.Path.{subst⁻¹}
use Rattle.saving.specs.declared.measuring.Tally.{Tally}
use Rattle.saving.proofs.measuring.tally_chain.Goals as goal

pub returns-then-t-gt-LAST_MESSAGE : goal.returns-then-t-gt-LAST_MESSAGE
returns-then-t-gt-LAST_MESSAGE c = chain_out _ _ _ 1025 _ _ c.loop-i.invariant.1 c.loop-i-test.true c.if-t-gt-LAST_MESSAGE.true

pub loop-i-preserved : goal.loop-i-preserved
loop-i-preserved c = (subst⁻¹ (λ (z : Tally). Small z) c.tally_item-t.ensures (small_item _ _ _ c.loop-i.invariant.0), chain_next _ _ _ 1025 _ _ c.loop-i.invariant.1 _ _ c.loop-i-test.true c.if-t-gt-LAST_MESSAGE.false c.load_item-m.ensures c.tally_item-t.ensures)

pub returns : goal.returns
returns c = chain_end _ _ _ 1025 _ _ c.loop-i.invariant.1 c.loop-i-test.false
