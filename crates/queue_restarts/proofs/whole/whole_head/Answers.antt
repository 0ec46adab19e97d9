use Rattle.queue_restarts.specs.Reset.{whole_head_words}
use Rattle.queue_restarts.proofs.whole.whole_head.Goals as goal

-- `queue_restarts::whole::whole_head` meets its contract: each return is what its definition says, by what the calls ensure and the tests taken. Assumes nothing.
pub returns : goal.returns
unfolding whole_head_words
returns c =
    rw (
      ← c.load_item-m.ensures,
      ← c.whole_item-o.ensures,
      ← c.store_item.ensures,
    )
