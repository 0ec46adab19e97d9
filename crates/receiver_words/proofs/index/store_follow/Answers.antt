-- `receiver_words::index::store_follow` meets its contract. Assumes nothing.
use borrow.Author.Tests.{le-leb, lt-leb}
use Rattle.receiver_words.specs.Index.{follow}
use Rattle.receiver_words.proofs.index.store_follow.Goals as goal

pub returns-then-p-ge4096 : goal.returns-then-p-ge4096
unfolding follow
returns-then-p-ge4096 c = rw (le-leb _ _ c.if-p-ge4096.true, c.store_bucket.ensures)

pub returns : goal.returns
unfolding follow
returns c = rw (lt-leb _ _ c.if-p-ge4096.false, c.store_link.ensures)
