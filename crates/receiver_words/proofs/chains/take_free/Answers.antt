-- `receiver_words::chains::take_free` meets its contract. Assumes nothing.
use borrow.Author.Tests.{le-leb, lt-leb}
use Rattle.receiver_words.specs.Chains.{take_free}
use Rattle.receiver_words.proofs.chains.take_free.Goals as goal

pub returns-then-i-ge4096 : goal.returns-then-i-ge4096
unfolding take_free
returns-then-i-ge4096 c = rw (← c.load_header-i.ensures, le-leb _ _ c.if-i-ge4096.true)

pub returns : goal.returns
unfolding take_free
returns c = rw (c.store_header.ensures, ← c.load_header-i.ensures, lt-leb _ _ c.if-i-ge4096.false, ← c.load_link-next.ensures)
