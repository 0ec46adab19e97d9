-- `receiver_words::index::find_row` meets its contract. Assumes nothing.
use Rattle.receiver_words.proofs.Exits.{found_by}
use Rattle.receiver_words.proofs.index.find_row.Goals as goal

pub returns : goal.returns
returns c = found_by _ _ _ _ _ _ c.bucket_of-b.ensures.0 c.load_bucket-head.ensures c.find_from.ensures
