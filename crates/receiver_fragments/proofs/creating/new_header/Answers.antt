-- `receiver_fragments::creating::new_header` meets its contract: each return is what its definition says, by what the calls ensure and the tests taken.
-- Assumes nothing.
use Rattle.receiver_fragments.specs.Creating.{new_header}
use Rattle.receiver_fragments.proofs.creating.new_header.Goals as goal

pub returns : goal.returns
unfolding new_header
returns c =
    rw (
      ← c.previous-last.ensures,
      ← c.store_header.ensures,
      ← c.store_header-2.ensures,
      ← c.store_header-3.ensures,
      ← c.store_header-4.ensures,
      ← c.store_header-5.ensures,
      ← c.store_header-6.ensures,
      ← c.store_header-7.ensures,
      ← c.store_header-8.ensures,
      ← c.store_header-9.ensures,
      ← c.store_header-10.ensures,
      ← c.store_header-11.ensures,
      ← c.store_header-12.ensures,
    )
