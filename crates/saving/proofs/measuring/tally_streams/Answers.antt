-- `saving::measuring::tally_streams` meets its contract: what the pass finds from the start on is what it finds from here on. Assumes nothing.
use mathlib.Core.Path.{subst⁻¹}
use Prim.Native.Nat.{◌≤◌, ◌+◌}
use native.Mathlib.Omega.{arith}
use Rattle.saving.specs.Measure.{Small}
use Rattle.saving.proofs.Passing.{small_stream, stream_streams}
use Rattle.saving.proofs.Loops.{from_next, from_end}
use Rattle.saving.specs.declared.measuring.Tally.{Tally}
use Rattle.saving.proofs.measuring.tally_streams.Goals as goal

pub loop-i-preserved : goal.loop-i-preserved
loop-i-preserved c = (subst⁻¹ (λ (z : Tally). z.streams ≤ c.loop-i.i + 1) c.tally_stream-t.ensures (omega (arith, stream_streams c.args.queue.now c.args.len c.loop-i.i c.loop-i.t, c.loop-i.invariant.0)), subst⁻¹ (λ (z : Tally). Small z) c.tally_stream-t.ensures (small_stream _ _ _ _ c.loop-i.invariant.1), from_next _ _ _ c.args.known _ _ c.loop-i.invariant.2 _ c.loop-i-test.true c.tally_stream-t.ensures)

pub returns : goal.returns
returns c = from_end _ _ _ c.args.known _ _ c.loop-i.invariant.2 c.loop-i-test.false
