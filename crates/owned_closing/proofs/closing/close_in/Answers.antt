-- `owned_closing::closing::close_in` meets its contract: each return is a case of `close_in`. Assumes nothing.
use Rattle.queue_closing.specs.Close.{close_in}
use Rattle.owned_closing.proofs.closing.close_in.Goals as goal

pub returns-then-open : goal.returns-then-open
unfolding close_in
returns-then-open c = rw (← c.load_stream-s.ensures, ← c.is_open-open.ensures, c.if-open.true, ← c.close_open.ensures)

pub returns : goal.returns
unfolding close_in
returns c = rw (← c.load_stream-s.ensures, ← c.is_open-open.ensures, c.if-open.false)
