use Rattle.queue_closing.specs.Close.{close_in}
use Rattle.queue_closing.proofs.close.close_in.Goals as goal

-- `queue_closing::close::close_in` meets its contract: each return is what its definition says, by what the calls ensure and the tests taken. Assumes nothing.
pub returns-then-open : goal.returns-then-open
unfolding close_in
returns-then-open c =
    rw (
      ← c.load_stream-s.ensures,
      ← c.is_open-open.ensures,
      c.if-open.true,
      ← c.close_open.ensures,
    )

pub returns : goal.returns
unfolding close_in
returns c =
    rw (
      ← c.load_stream-s.ensures,
      ← c.is_open-open.ensures,
      c.if-open.false,
    )
