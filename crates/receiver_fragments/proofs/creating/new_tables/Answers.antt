-- `receiver_fragments::creating::new_tables` meets its contract: each return is what its definition says, by what the calls ensure and the tests taken.
-- Assumes nothing.
use Rattle.receiver_fragments.specs.Creating.{new_tables}
use Rattle.receiver_fragments.proofs.creating.new_tables.Goals as goal

pub returns : goal.returns
unfolding new_tables
returns c =
    rw (
      ← c.clear_ahead.ensures,
      ← c.clear_buckets.ensures,
      ← c.clear_buckets-2.ensures,
      ← c.clear_buckets-3.ensures,
      ← c.free_all.ensures,
    )
