-- `restoring::message_records::count_restored` meets its contract: each return is what its definition says, by what the calls ensure and the tests
-- taken. Assumes nothing.
use Rattle.restoring.specs.Messages.{counted_restored}
use Rattle.restoring.proofs.message_records.count_restored.Goals as goal

pub returns : goal.returns
unfolding counted_restored
returns c =
    rw (
      ← c.load_totals-t.ensures,
      ← c.plus.ensures,
      ← c.plus-2.ensures,
      ← c.store_totals.ensures,
    )
