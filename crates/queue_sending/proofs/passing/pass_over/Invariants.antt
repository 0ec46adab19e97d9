-- `queue_sending::passing::pass_over` meets its contract: what passing over leaves from here on is what it leaves from the start on. The measure is how
-- many messages
-- may still be dropped. Assumes nothing.
use mathlib.Core.Path.{◌≡◌}
use lib.ListN.{length}
use Rattle.queue_sending.specs.Produce.{passed}
use Rattle.queue_sending.proofs.passing.pass_over.Given as goal

abbrev pub invariant-loop-found : goal.invariant-loop-found
invariant-loop-found l = (length l.events ≡ length l.initial.events) × (passed l.left l.queue l.events l.time l.count ≡ passed l.waiting l.initial.queue l.initial.events l.time l.k)

abbrev pub decreases-loop-found : goal.decreases-loop-found
decreases-loop-found l = l.left
