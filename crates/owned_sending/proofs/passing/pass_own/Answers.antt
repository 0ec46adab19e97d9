-- `owned_sending::passing::pass_own` meets its contract: passing over from here on leaves what it leaves from the start on, and the words are those of a queue (proofs/Steps.antt). The measure is how many messages wait. Assumes nothing.
use Rattle.owned_sending.proofs.Steps.{unbroken, may_go_lem, goes_on, fewer_wait}
use Rattle.std.proofs.Common.{refl}
use Rattle.owned_sending.proofs.passing.pass_own.Goals as goal

pub look_own-found-requires : goal.look_own-found-requires
look_own-found-requires c = unbroken _ _ c.loop-at.invariant.now_ready.good _

pub drop_own-count-requires : goal.drop_own-count-requires
drop_own-count-requires c = may_go_lem _ _ _ _ _ _ _ _ c.loop-at.invariant _ c.in-Expired.ensures _ _ refl

pub loop-at-smaller : goal.loop-at-smaller
loop-at-smaller c = fewer_wait _ _ _ _ _ _ _ _ c.loop-at.invariant _ c.in-Expired.ensures _ _ refl _ _ _ c.drop_own-count.ensures

pub loop-at-preserved : goal.loop-at-preserved
loop-at-preserved c = goes_on _ _ _ _ _ _ _ _ c.loop-at.invariant _ c.in-Expired.ensures _ _ refl _ _ _ c.drop_own-count.ensures
