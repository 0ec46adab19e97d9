-- `owned_sending::passing::pass_own` meets its contract: passing over from here on leaves what it leaves from the start on, and the words are those of a queue (proofs/Steps.antt). The measure is how many messages wait. Assumes nothing.
use Rattle.queue_words.specs.Header.{totals_at}
use Rattle.owned_sending.proofs.Steps.{Passed}
use Rattle.owned_sending.proofs.passing.pass_own.Given as goal

abbrev pub invariant-loop-at : goal.invariant-loop-at
invariant-loop-at l = Passed l.initial.queue l.store l.initial.events l.time l.k l.queue l.events l.count

abbrev pub decreases-loop-at : goal.decreases-loop-at
decreases-loop-at l = (totals_at l.queue).waiting
