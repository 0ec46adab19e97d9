use borrow.Author.Tests.{le-ltb, lt-ltb}
use Rattle.queue_restarts.specs.Ready.{marked}
use Rattle.queue_restarts.proofs.ready.mark.Goals as goal

-- `queue_restarts::ready::mark` meets its contract: each return is what its definition says, by what the calls ensure and the tests taken. Assumes nothing.
pub returns-then-place-gt-LAST_STREAM : goal.returns-then-place-gt-LAST_STREAM
unfolding marked
returns-then-place-gt-LAST_STREAM c = rw (lt-ltb _ _ c.if-place-gt-LAST_STREAM.true)

pub returns-then-paused : goal.returns-then-paused
unfolding marked
returns-then-paused c = rw (le-ltb _ _ c.if-place-gt-LAST_STREAM.false, ← c.load_stream-s.ensures, ← c.is_paused-paused.ensures, c.if-paused.true, c.store_resetting.ensures)

pub returns-else-paused : goal.returns-else-paused
unfolding marked
returns-else-paused c = rw (le-ltb _ _ c.if-place-gt-LAST_STREAM.false, ← c.load_stream-s.ensures, ← c.is_paused-paused.ensures, c.if-paused.false)
