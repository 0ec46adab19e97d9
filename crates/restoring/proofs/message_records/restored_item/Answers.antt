-- `restoring::message_records::restored_item` meets its contract: each return is what its definition says, by what the calls ensure and the tests taken.
-- Assumes nothing.
use Rattle.restoring.specs.Messages.{restored_item_words}
use Rattle.restoring.proofs.message_records.restored_item.Goals as goal

pub returns : goal.returns
unfolding restored_item_words
returns c =
    rw (
      ← c.has_flag-unordered.ensures,
      ← c.has_flag-mid_given.ensures,
      ← c.restored_numbers-numbers.ensures,
      ← c.has_flag-expires.ensures,
      ← c.restored_expiry-expires_at.ensures,
    )
