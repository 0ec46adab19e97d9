-- `queue_sending::fragment::next_first` meets its contract: each return is what its definition says, by what the calls ensure and the tests taken.
-- Assumes nothing.
use Rattle.queue_sending.specs.Fragment.{next_first}
use Rattle.queue_sending.proofs.fragment.next_first.Goals as goal

pub returns-then-paused : goal.returns-then-paused
unfolding next_first
returns-then-paused c =
    rw (
      ← c.is_paused-paused.ensures,
      c.if-paused.true,
    )

pub returns : goal.returns
unfolding next_first
returns c =
    rw (
      ← c.is_paused-paused.ensures,
      c.if-paused.false,
    )
