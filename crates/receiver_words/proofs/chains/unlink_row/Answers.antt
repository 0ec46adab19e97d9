-- `receiver_words::chains::unlink_row` meets its contract. Assumes nothing.
use Rattle.receiver_words.specs.Chains.{unlink_row}
use Rattle.receiver_words.proofs.chains.unlink_row.Goals as goal

pub returns : goal.returns
unfolding unlink_row
returns c = rw (c.store_end-2.ensures, c.store_end.ensures, ← c.load_link-older.ensures, ← c.load_link-newer.ensures)
