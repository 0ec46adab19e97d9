-- `queue_sending::fragment::go_further` meets its contract: the return is what its definition says, by what the calls ensure. Assumes nothing.
use Rattle.queue_sending.specs.Fragment.{went_further}
use Rattle.queue_sending.proofs.fragment.go_further.Goals as goal

pub returns : goal.returns
unfolding went_further
returns c =
    rw (
      ← c.load_totals-t.ensures,
      ← c.minus-total.ensures,
      ← c.minus-amount.ensures,
      ← c.moved_on-item.ensures,
      ← c.store_progress.ensures,
    )
