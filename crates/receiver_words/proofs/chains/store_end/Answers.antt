-- `receiver_words::chains::store_end` meets its contract. Assumes nothing.
use borrow.Author.Tests.{lt-ltb, le-ltb}
use Rattle.receiver_words.specs.Chains.{put_end}
use Rattle.receiver_words.proofs.chains.store_end.Goals as goal

pub returns-then-p-lt4096 : goal.returns-then-p-lt4096
unfolding put_end
returns-then-p-lt4096 c = rw (lt-ltb _ _ c.if-p-lt4096.true, c.store_link.ensures)

pub returns : goal.returns
unfolding put_end
returns c = rw (le-ltb _ _ c.if-p-lt4096.false, c.store_header.ensures)
