-- `receiver_words::index::index_row` meets its contract. Assumes nothing.
use Rattle.receiver_words.specs.Index.{index_row}
use Rattle.receiver_words.proofs.index.index_row.Goals as goal

pub returns : goal.returns
unfolding index_row
returns c = rw (c.store_bucket.ensures, c.store_link.ensures, ← c.load_bucket-head.ensures)
