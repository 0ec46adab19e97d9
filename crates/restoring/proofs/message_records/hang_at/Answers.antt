-- `restoring::message_records::hang_at` meets its contract: each return is what its definition says, by what the calls ensure and the tests taken.
-- Assumes nothing.
use Rattle.restoring.specs.Messages.{hung_at}
use Rattle.restoring.proofs.message_records.hang_at.Goals as goal

pub returns : goal.returns
unfolding hung_at
returns c =
    rw (
      ← c.store_item.ensures,
      ← c.put_payload.ensures,
      ← c.link.ensures,
      ← c.count_restored.ensures,
    )
