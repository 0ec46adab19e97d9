use Rattle.queue_messages.specs.Add.{counted}
use Rattle.queue_messages.proofs.adding.count_message.Goals as goal

-- `queue_messages::adding::count_message` meets its contract: each return is what its definition says, by what the calls ensure and the tests taken.
-- Assumes nothing.
pub returns : goal.returns
unfolding counted
returns c =
    rw (
      ← c.load_totals-t.ensures,
      ← c.add_to-id.ensures,
      ← c.plus.ensures,
      ← c.plus-2.ensures,
      ← c.store_totals.ensures,
    )
