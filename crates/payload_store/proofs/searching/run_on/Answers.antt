-- `payload_store::searching::run_on` meets its contract: each return is what its definition says, by what the calls ensure and the tests taken. Assumes
-- nothing.
use borrow.Author.Tests.{le-ltb, lt-ltb}
use Rattle.std.proofs.Common.{◌+◌}
use Rattle.payload_store.specs.Searching.{run_on}
use Rattle.payload_store.proofs.Found.{max_greater}
use Rattle.payload_store.proofs.searching.run_on.Goals as goal

pub returns-then-x-gt0 : goal.returns-then-x-gt0
unfolding run_on
returns-then-x-gt0 c =
    rw (
      lt-ltb _ _ c.if-x-gt0.true,
      ← max_greater c.args.r.start c.args.x,
      ← c.max.ensures,
      ← max_greater _ (c.args.k + 1),
      ← c.max-then-x-gt0.ensures,
    )

pub returns-then-r-k : goal.returns-then-r-k
unfolding run_on
returns-then-r-k c =
    rw (
      le-ltb _ _ c.if-x-gt0.false,
      lt-ltb _ _ c.if-r-k.true,
    )

pub returns : goal.returns
unfolding run_on
returns c =
    rw (
      le-ltb _ _ c.if-x-gt0.false,
      le-ltb _ _ c.if-r-k.false,
      ← c.free_at.ensures,
    )
