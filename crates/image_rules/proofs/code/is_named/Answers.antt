-- `image_rules::code::is_named` meets its contract: each return is what its definition says, by what the calls ensure and the tests taken. Assumes nothing.
use borrow.Author.Tests.{le-ltb, lt-ltb}
use Rattle.image_rules.specs.Cursor.{named_at}
use Rattle.image_rules.proofs.code.is_named.Goals as goal

pub returns-then-k-records : goal.returns-then-k-records
unfolding named_at
returns-then-k-records c =
    rw (
      lt-ltb _ _ c.if-k-records.true,
      ← c.read_stream-s.ensures,
    )

pub returns : goal.returns
unfolding named_at
returns c =
    rw
    (
    le-ltb _ _ c.if-k-records.false
    )
