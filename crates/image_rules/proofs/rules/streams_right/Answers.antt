-- `image_rules::rules::streams_right` meets its contract: what is asked is whether the records from the i-th on keep the rules. Assumes nothing.
use mathlib.Core.Path.{◌≡◌, ◌∙◌, ap}
use Prim.Native.Nat.{◌+◌, ◌-◌, ◌*◌}
use native.Mathlib.Omega.{arith}
use Rattle.image_rules.specs.Streams.{streams_right_words}
use Rattle.image_rules.proofs.Loops.{streams_plain, streams_low, streams_next, streams_end}
use Rattle.image_rules.proofs.rules.streams_right.Goals as goal

pub returns-then-plain : goal.returns-then-plain
returns-then-plain c = streams_plain _ _ _ _ _ _ c.loop-i.invariant c.loop-i-test.true _ c.read_stream-s.ensures _ c.is_plain-plain.ensures c.if-plain.true

pub returns-then-s-least : goal.returns-then-s-least
returns-then-s-least c = streams_low _ _ _ _ _ _ c.loop-i.invariant c.loop-i-test.true _ c.read_stream-s.ensures _ c.is_plain-plain.ensures c.if-plain.false c.if-s-least.true

pub loop-i-preserved : goal.loop-i-preserved
loop-i-preserved c =
    let e : 14 * c.loop-i.i + 14 ≡ 14 * (c.loop-i.i + 1) = omega arith in
    streams_next _ _ _ _ _ _ c.loop-i.invariant c.loop-i-test.true _ c.read_stream-s.ensures _ c.is_plain-plain.ensures c.if-plain.false c.if-s-least.false
    ∙ ap (λ at. streams_right_words c.args.image.now c.args.d at (c.read_stream-s.result.id + 1) (c.args.n - (c.loop-i.i + 1))) e

pub returns : goal.returns
returns c = streams_end _ _ _ _ _ _ c.loop-i.invariant c.loop-i-test.false
