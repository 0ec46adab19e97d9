-- `image_rules::code::move_on` meets its contract: the place from k on is the place from the start on. Assumes nothing.
use mathlib.Core.Path.{◌≡◌, sym, ◌∙◌}
use native.Mathlib.Omega.{arith}
use Rattle.image_rules.proofs.Places.{moved_here, moved_next, moved_end}
use Rattle.image_rules.proofs.code.move_on.Goals as goal

pub returns-then-s-id : goal.returns-then-s-id
returns-then-s-id c = moved_here _ _ _ _ c.loop-k-test.true _ c.read_stream-s.ensures c.if-s-id.true ∙ sym c.loop-k.invariant

pub loop-k-preserved : goal.loop-k-preserved
loop-k-preserved c = c.loop-k.invariant ∙ moved_next _ _ _ _ c.loop-k-test.true _ c.read_stream-s.ensures c.if-s-id.false

pub returns : goal.returns
returns c =
    let e : c.args.records ≡ c.loop-k.k = omega (arith, c.loop-k.auto.k-end, c.loop-k-test.false, c.requires.1) in
    e ∙ moved_end _ _ _ _ c.loop-k-test.false ∙ sym c.loop-k.invariant
