-- `receiver_fragments::freeing::unindex_held` meets its contract: each return is what its definition says, by what the calls ensure and the tests taken.
-- Assumes nothing.
use Rattle.receiver_fragments.specs.Freeing.{unindex_held}
use Rattle.receiver_fragments.proofs.freeing.unindex_held.Goals as goal

pub returns-then-interleaved : goal.returns-then-interleaved
unfolding unindex_held
returns-then-interleaved c =
    rw (
      ← c.bucket_of-b.ensures.0,
      ← c.unindex_row.ensures,
      c.if-interleaved.true,
      ← c.bucket_of-p.ensures.0,
      ← c.unindex_row-then-interleaved.ensures,
    )

pub returns : goal.returns
unfolding unindex_held
returns c =
    rw (
      ← c.bucket_of-b.ensures.0,
      ← c.unindex_row.ensures,
      c.if-interleaved.false,
    )
