-- `queue_sending::passing::pass_some` meets its contract: the loop stands where passing over stands after so many drops in the log (proofs/Logged.antt),
-- and the head that it drops next is what a look finds. The measure is how many messages may still be dropped. Assumes nothing.
use mathlib.Core.Path.{refl, sym, ap, ◌∙◌}
use native.Mathlib.Omega.{arith}
use Rattle.queue_streams.specs.Answers.{as_call}
use Rattle.queue_sending.specs.Answers.{as_look}
use Rattle.queue_sending.specs.Own.{look_of}
use Rattle.queue_sending.proofs.Logged.{going_start, going_on, going_stopped}
use Rattle.queue_sending.proofs.passing.pass_some.Goals as goal

pub loop-drops-init : goal.loop-drops-init
loop-drops-init c = (c.requires.1, (refl, (refl, going_start _ _ _ _ _ _ _)))

pub loop-drops-preserved : goal.loop-drops-preserved
loop-drops-preserved c = (sym (ap look_of (rw c.in-Ok-Expired.is at c.in-Ok-Expired.field-0-is)) ∙ sym (ap as_look c.in-Ok-Expired.is) ∙ c.look_ahead-found.ensures, (c.events-1.given ∙ c.loop-drops.invariant.1.0, (c.log-1.given ∙ c.loop-drops.invariant.1.1.0, going_on _ _ _ _ _ _ _ _ _ _ _ _ c.loop-drops.invariant.1.1.1 _ _ _ c.keep_drop.ensures _ _ _ c.in-Ok.ensures (omega (arith, c.if-drops-room.false, c.loop-drops.invariant.1.1.0, c.requires.0)) (omega (arith, c.if-drops-room.false)) _ c.loop-drops.invariant.0 refl c.if-left-eq0.false c.whole.ensures _ refl)))

pub returns-in_default-found : goal.returns-in_default-found
returns-in_default-found c = (c.look_ahead-found.ensures, (going_on _ _ _ _ _ _ _ _ _ _ _ _ c.loop-drops.invariant.1.1.1 _ _ _ c.keep_drop.ensures _ _ _ c.in-Ok.ensures (omega (arith, c.if-drops-room.false, c.loop-drops.invariant.1.1.0, c.requires.0)) (omega (arith, c.if-drops-room.false)) _ c.loop-drops.invariant.0 refl c.if-left-eq0.false c.whole.ensures _ refl).so_far)

pub returns-in_default-found-2 : goal.returns-in_default-found-2
returns-in_default-found-2 c = (c.look_ahead-found.ensures, (going_on _ _ _ _ _ _ _ _ _ _ _ _ c.loop-drops.invariant.1.1.1 _ _ _ c.keep_drop.ensures _ _ _ c.in-Ok.ensures (omega (arith, c.if-drops-room.false, c.loop-drops.invariant.1.1.0, c.requires.0)) (omega (arith, c.if-drops-room.false)) _ c.loop-drops.invariant.0 refl c.if-left-eq0.false c.whole.ensures _ refl).so_far)

pub returns-in_default : goal.returns-in_default
returns-in_default c = going_stopped _ _ _ _ _ _ _ _ _ _ _ _ c.loop-drops.invariant.1.1.1 _ _ _ c.keep_drop.ensures _ _ _ c.drop_expired-dropped.ensures (omega (arith, c.if-drops-room.false, c.loop-drops.invariant.1.1.0, c.requires.0)) (omega (arith, c.if-drops-room.false)) _ c.loop-drops.invariant.0 _ (ap as_call c.in_default.is)
