-- `receiver_words::index::unindex_row` meets its contract. Assumes nothing.
use Rattle.receiver_words.proofs.Exits.{taken_out}
use Rattle.receiver_words.proofs.index.unindex_row.Goals as goal

pub returns : goal.returns
returns c = taken_out _ _ _ _ _ _ _ _ c.load_bucket-head.ensures c.row_before-p.ensures c.load_link-after.ensures c.store_follow.ensures
