-- `queue_sending::passing::pass_some` meets its contract: the loop stands where passing over stands after so many drops in the log (proofs/Logged.antt),
-- and the head that it drops next is what a look finds. The measure is how many messages may still be dropped. Assumes nothing.
use mathlib.Core.Path.{◌≡◌}
use lib.ListN.{length}
use Rattle.queue_sending.specs.Choice.{look_ahead}
use Rattle.queue_sending.specs.Look as look
use Rattle.queue_sending.proofs.Logged.{Going}
use Rattle.queue_sending.proofs.passing.pass_some.Given as goal

abbrev pub invariant-loop-drops : goal.invariant-loop-drops
invariant-loop-drops l =
    (look.Expired l.id l.row ≡ look_ahead l.queue l.time) × ((length l.events ≡ length l.initial.events) × ((length l.log ≡ length l.initial.log) × Going l.room l.initial.queue l.initial.events l.time l.waiting l.k l.log l.queue l.events l.left l.count l.drops))

abbrev pub decreases-loop-drops : goal.decreases-loop-drops
decreases-loop-drops l = l.left
