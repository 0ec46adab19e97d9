use Rattle.queue_closing.specs.Sweep.{sweep_item_words}
use Rattle.queue_closing.proofs.close.sweep_item.Goals as goal

-- `queue_closing::close::sweep_item` meets its contract: each return is what its definition says, by what the calls ensure and the tests taken. Assumes nothing.
pub returns : goal.returns
unfolding sweep_item_words
returns c =
    rw (
      ← c.load_item-m.ensures,
      ← c.remaining-n.ensures,
      ← c.sweep_events-count.ensures,
      ← c.release.ensures,
      ← c.minus.ensures,
    )
