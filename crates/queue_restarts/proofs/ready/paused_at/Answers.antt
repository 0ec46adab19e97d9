use borrow.Author.Tests.{le-ltb, lt-ltb}
use Rattle.queue_restarts.specs.Ready.{paused_at}
use Rattle.queue_restarts.proofs.ready.paused_at.Goals as goal

-- `queue_restarts::ready::paused_at` meets its contract: each return is what its definition says, by what the calls ensure and the tests taken. Assumes nothing.
pub returns-then-place-gt-LAST_STREAM : goal.returns-then-place-gt-LAST_STREAM
unfolding paused_at
returns-then-place-gt-LAST_STREAM c =
    rw
    (
    lt-ltb _ _ c.if-place-gt-LAST_STREAM.true
    )

pub returns : goal.returns
unfolding paused_at
returns c =
    rw (
      le-ltb _ _ c.if-place-gt-LAST_STREAM.false,
      ← c.load_stream-s.ensures,
      ← c.is_paused.ensures,
    )
