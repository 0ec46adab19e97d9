-- `receiver_messages::keys::previous` meets its contract: each return is what its definition says, by what the calls ensure and the tests taken. Assumes
-- nothing.
use borrow.Author.Tests.{eq-eqb, ne_eqb}
use Rattle.receiver_messages.specs.Keys.{previous}
use Rattle.receiver_messages.proofs.keys.previous.Goals as goal

pub returns-then-t-eq0 : goal.returns-then-t-eq0
unfolding previous
returns-then-t-eq0 c =
    rw (eq-eqb _ _ c.if-t-eq0.true)

pub returns : goal.returns
unfolding previous
returns c =
    rw (ne_eqb _ _ c.if-t-eq0.false)
