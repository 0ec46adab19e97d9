-- `owned_saving::counting::count_records` meets its contract: so many of the first i streams have a record. Assumes nothing.
use mathlib.Core.Path.{ap}
use mathlib.Core.Bool.{not}
use mathlib.Core.Path.{◌∙◌}
use native.Mathlib.Omega.{arith}
use Rattle.owned_saving.proofs.Counts.{none_counted, with_record, without}
use Rattle.owned_saving.proofs.counting.count_records.Goals as goal
use Rattle.owned_saving.proofs.counting.count_records.Goals.{else-not-plain, then-not-plain}

pub loop-i-init : goal.loop-i-init
loop-i-init c = (none_counted _, omega arith)

pub loop-i-preserved : goal.loop-i-preserved
loop-i-preserved c = (elim c.if-not-plain.branch [ then-not-plain w ↦ w.count-is ∙ with_record _ _ _ _ _ _ _ c.loop-i.invariant.0 c.load_known-k.ensures c.load_stream-s.ensures c.load_options-o.ensures c.is_plain-plain.ensures (ap not w.if-not-plain.true) | else-not-plain w ↦ w.count-is ∙ without _ _ _ _ _ _ _ c.loop-i.invariant.0 c.load_known-k.ensures c.load_stream-s.ensures c.load_options-o.ensures c.is_plain-plain.ensures (ap not w.if-not-plain.false) ], elim c.if-not-plain.branch [ then-not-plain w ↦ omega (arith, w.count-is, c.loop-i.invariant.1) | else-not-plain w ↦ omega (arith, w.count-is, c.loop-i.invariant.1) ])
