-- `queue_sending::numbers::moved_on` meets its contract: each return is what its definition says, by what the calls ensure and the tests taken. Assumes
-- nothing.
use Rattle.queue_sending.specs.Numbers.{moved_on_words}
use Rattle.queue_sending.proofs.numbers.moved_on.Goals as goal

pub returns : goal.returns
unfolding moved_on_words
returns c =
    rw (
      ← c.add_to-fsn.ensures,
      ← c.plus.ensures,
    )
