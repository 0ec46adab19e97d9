-- `receiver_store::held_end` meets its contract: each return is what its definition says, by what the calls ensure and the tests taken. Assumes nothing.
use borrow.Author.Tests.{le-leb, lt-leb}
use native.Mathlib.Omega.{arith}
use Rattle.receiver_store.specs.Dropping.{held_end}
use Rattle.receiver_store.proofs.Exits.{row_in}
use Rattle.receiver_store.proofs.held_end.Goals as goal

pub returns-then-newest-ge4096 : goal.returns-then-newest-ge4096
unfolding held_end
returns-then-newest-ge4096 c =
    rw (
      ← c.load_header-newest.ensures,
      le-leb _ _ c.if-newest-ge4096.true,
    )

pub returns-then-out : goal.returns-then-out
unfolding held_end
returns-then-out c =
    rw (
      ← c.load_header-newest.ensures,
      lt-leb _ _ c.if-newest-ge4096.false,
      ← c.load_header-end.ensures,
      ← c.load_link-place.ensures,
      ← c.load_link-size.ensures,
      ← c.misplaced-out.ensures,
      c.if-out.true,
    )

pub overflow_add-result : goal.overflow_add-result
overflow_add-result c = let o = row_in _ _ _ _ _ c.misplaced-out.ensures c.if-out.false in omega (arith, o.1)

pub returns : goal.returns
unfolding held_end
returns c =
    rw (
      ← c.load_header-newest.ensures,
      lt-leb _ _ c.if-newest-ge4096.false,
      ← c.load_header-end.ensures,
      ← c.load_link-place.ensures,
      ← c.load_link-size.ensures,
      ← c.misplaced-out.ensures,
      c.if-out.false,
    )
