-- `receiver_words::chains::link_newest` meets its contract. Assumes nothing.
use Rattle.receiver_words.specs.Chains.{link_newest}
use Rattle.receiver_words.proofs.chains.link_newest.Goals as goal

pub returns : goal.returns
unfolding link_newest
returns c = rw (c.store_header.ensures, c.store_end.ensures, c.store_link-2.ensures, c.store_link.ensures, ← c.load_header-newest.ensures)
