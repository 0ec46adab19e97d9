-- `queue_streams::commit::commit_at` meets its contract: each return is what its definition says, by what the calls ensure and the tests taken. Assumes nothing.
use native.Mathlib.Omega.{arith}
use borrow.Author.Tests.{le-ltb}
use Rattle.queue_streams.specs.Commit.{committed_at}
use Rattle.queue_streams.proofs.commit.commit_at.Goals as goal

-- `queue_streams::commit::commit_at` meets its contract: each return is what its definition says, by what the calls ensure and the tests taken. Assumes nothing.
pub returns-then-resetting : goal.returns-then-resetting
unfolding committed_at
returns-then-resetting c =
    rw (
      le-ltb 255 c.args.place (omega (arith, c.requires)),
      ← c.load_stream-s.ensures,
      ← c.is_resetting-resetting.ensures,
      c.if-resetting.true,
      ← c.open_stream-o.ensures,
      ← c.store_stream.ensures,
    )

pub returns-else-resetting : goal.returns-else-resetting
unfolding committed_at
returns-else-resetting c =
    rw (
      le-ltb 255 c.args.place (omega (arith, c.requires)),
      ← c.load_stream-s.ensures,
      ← c.is_resetting-resetting.ensures,
      c.if-resetting.false,
    )
