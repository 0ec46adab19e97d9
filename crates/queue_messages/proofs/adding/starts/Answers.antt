use Rattle.queue_messages.specs.Add.{starts}
use Rattle.queue_messages.proofs.adding.starts.Goals as goal

-- `queue_messages::adding::starts` meets its contract: each return is what its definition says, by what the calls ensure and the tests taken. Assumes nothing.
pub returns-then-may : goal.returns-then-may
unfolding starts
returns-then-may c =
    rw (
      ← c.may_start-may.ensures,
      c.if-may.true,
    )

pub returns : goal.returns
unfolding starts
returns c =
    rw (
      ← c.may_start-may.ensures,
      c.if-may.false,
    )
