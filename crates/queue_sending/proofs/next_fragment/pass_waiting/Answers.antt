-- `queue_sending::next_fragment::pass_waiting` meets its contract: each return is what its definition says, by what the calls ensure and the tests
-- taken. Assumes nothing.
use mathlib.Core.Path.{ap}
use Rattle.queue_sending.proofs.Nexts.{waiting_many, waiting_few}
use Rattle.queue_words.specs.declared.header.Totals.{Totals}
use Rattle.queue_sending.proofs.next_fragment.pass_waiting.Goals as goal

pub returns-then-t-gt-MESSAGES : goal.returns-then-t-gt-MESSAGES
returns-then-t-gt-MESSAGES c = waiting_many _ _ _ _ _ _ _ _ (ap (λ (t : Totals). t.waiting) c.load_totals-t.ensures) c.if-t-gt-MESSAGES.true

pub returns : goal.returns
returns c = waiting_few _ _ _ _ _ _ _ _ (ap (λ (t : Totals). t.waiting) c.load_totals-t.ensures) c.if-t-gt-MESSAGES.false _ _ _ c.pass_from.ensures
