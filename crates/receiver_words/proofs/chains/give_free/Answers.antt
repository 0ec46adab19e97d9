-- `receiver_words::chains::give_free` meets its contract. Assumes nothing.
use Rattle.receiver_words.specs.Chains.{give_free}
use Rattle.receiver_words.proofs.chains.give_free.Goals as goal

pub returns : goal.returns
unfolding give_free
returns c = rw (c.store_header.ensures, c.store_link.ensures, ← c.load_header-first.ensures)
