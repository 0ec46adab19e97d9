-- `receiver_words::chains::append_message` meets its contract. Assumes nothing.
use Rattle.receiver_words.specs.Chains.{append_message}
use Rattle.receiver_words.proofs.chains.append_message.Goals as goal

pub returns : goal.returns
unfolding append_message
returns c = rw (c.store_header.ensures, c.store_end.ensures, c.store_link.ensures, ← c.load_header-last.ensures)
