-- `queue_sending::next_fragment::produce_code` meets its contract: each return is what its definition says, by what the calls ensure and the test taken.
-- Assumes nothing.
use borrow.Author.Tests.{eq-eqb, ne_eqb}
use Rattle.queue_sending.specs.Produce.{produce_code}
use Rattle.queue_sending.proofs.next_fragment.produce_code.Goals as goal

pub returns-then-o-len : goal.returns-then-o-len
unfolding produce_code
returns-then-o-len c = rw (← c.load_options-o.ensures, ne_eqb _ _ c.if-o-len.true)

pub returns : goal.returns
unfolding produce_code
returns c = rw (← c.load_options-o.ensures, eq-eqb _ _ c.if-o-len.false) c.lent_code.ensures
