-- `queue_sending::fragment::go_on` meets its contract: each return is what its definition says, by what the calls ensure and the tests taken. Assumes nothing.
use Rattle.queue_sending.specs.Fragment.{went_on_words}
use Rattle.queue_sending.proofs.fragment.go_on.Goals as goal

pub returns : goal.returns
unfolding went_on_words
returns c =
    rw (
      ← c.load_totals-t.ensures,
      ← c.minus.ensures,
      ← c.store_totals.ensures,
      ← c.moved_on-item.ensures,
      ← c.store_item.ensures,
      ← c.minus-2.ensures,
      ← c.store_stream.ensures,
    )
