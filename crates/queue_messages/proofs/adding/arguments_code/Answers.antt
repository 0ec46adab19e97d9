use borrow.Author.Tests.{eq-eqb, ne_eqb}
use Rattle.queue_messages.specs.Add.{arguments_code}
use Rattle.queue_messages.proofs.adding.arguments_code.Goals as goal

-- `queue_messages::adding::arguments_code` meets its contract: each return is what its definition says, by what the calls ensure and the test taken.
-- Assumes nothing.
pub returns-then-o-len : goal.returns-then-o-len
unfolding arguments_code
returns-then-o-len c = rw (← c.load_options-o.ensures, ne_eqb _ _ c.if-o-len.true)

pub returns : goal.returns
unfolding arguments_code
returns c = rw (← c.load_options-o.ensures, eq-eqb _ _ c.if-o-len.false) c.asked_code.ensures
