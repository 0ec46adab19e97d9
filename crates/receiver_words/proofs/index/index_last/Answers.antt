-- `receiver_words::index::index_last` meets its contract: each return is what its definition says, by what the calls ensure and the tests taken. Assumes
-- nothing.
use Rattle.receiver_words.specs.Index.{index_last}
use Rattle.receiver_words.proofs.index.index_last.Goals as goal

pub returns : goal.returns
unfolding index_last
returns c =
    rw (
      ← c.load_bucket-head.ensures,
      ← c.row_before-p.ensures,
      ← c.store_link.ensures,
      ← c.store_follow.ensures,
    )
