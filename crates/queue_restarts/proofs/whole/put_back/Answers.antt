use borrow.Author.Tests.{le-ltb, lt-ltb}
use Rattle.queue_restarts.specs.Reset.{put_back}
use Rattle.queue_restarts.proofs.whole.put_back.Goals as goal

-- `queue_restarts::whole::put_back` meets its contract: each return is what its definition says, by what the calls ensure and the tests taken. Assumes nothing.
pub returns-then-first-gt-LAST_MESSAGE : goal.returns-then-first-gt-LAST_MESSAGE
unfolding put_back
returns-then-first-gt-LAST_MESSAGE c =
    rw
    (
    lt-ltb _ _ c.if-first-gt-LAST_MESSAGE.true
    )

pub returns : goal.returns
unfolding put_back
returns c =
    rw (
      le-ltb _ _ c.if-first-gt-LAST_MESSAGE.false,
      ← c.load_item-m.ensures,
      ← c.remaining-left.ensures,
      ← c.minus.ensures,
    )
