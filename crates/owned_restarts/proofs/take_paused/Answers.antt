-- `owned_restarts::take_paused` meets its contract: the ids of the paused ones among the first i streams, at most i, and these marked (proofs/Takes.antt). Assumes nothing.
use mathlib.Core.Path.{ap₂, ◌∙◌}
use native.Mathlib.Omega.{arith}
use Rattle.queue_restarts.proofs.Loops.{gathered, collected_start, collected_more, collected_same, marked_start}
use Rattle.owned_restarts.proofs.Takes.{known_is, place_fits, paused_is, marked_on, marked_off}
use Rattle.owned_restarts.proofs.take_paused.Goals as goal
use Rattle.owned_restarts.proofs.take_paused.Goals.{else-paused, then-paused}

pub loop-i-init : goal.loop-i-init
loop-i-init c = (omega arith, collected_start _, marked_start _)

pub load_stream-s-requires : goal.load_stream-s-requires
load_stream-s-requires c = place_fits _ _ c.requires _ c.loop-i-test.true _ c.loop-i.invariant.2 _ c.load_known-k.ensures

pub store_resetting-requires : goal.store_resetting-requires
store_resetting-requires c = place_fits _ _ c.requires _ c.loop-i-test.true _ c.loop-i.invariant.2 _ c.load_known-k.ensures

pub loop-i-preserved : goal.loop-i-preserved
loop-i-preserved c =
    let inv = c.loop-i.invariant in
    let h = c.loop-i-test.true in
    let k = known_is _ _ c.requires _ h _ inv.2 _ c.load_known-k.ensures in
    let p = paused_is _ _ c.requires _ h _ inv.2 _ c.load_known-k.ensures _ c.load_stream-s.ensures _ c.is_paused-paused.ensures in (
      elim c.if-paused.branch [ then-paused w ↦ omega (arith, w.count-is, inv.0) | else-paused w ↦ omega (arith, w.count-is, inv.0) ],
      elim c.if-paused.branch [ then-paused w ↦ ap₂ gathered w.count-is w.ids-is ∙ collected_more _ _ _ _ inv.1 _ k _ p w.if-paused.true | else-paused w ↦ ap₂ gathered w.count-is w.ids-is ∙ collected_same _ _ _ _ inv.1 _ k _ p w.if-paused.false ],
      elim c.if-paused.branch [ then-paused w ↦ w.queue-is ∙ marked_on _ _ c.requires _ h _ inv.2 _ c.load_known-k.ensures _ c.load_stream-s.ensures _ c.is_paused-paused.ensures _ w.if-paused.true w.store_resetting.ensures | else-paused w ↦ w.queue-is ∙ marked_off _ _ c.requires _ h _ inv.2 _ c.load_known-k.ensures _ c.load_stream-s.ensures _ c.is_paused-paused.ensures w.if-paused.false ],
    )
