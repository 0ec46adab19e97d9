-- `receiver_fragments::creating::create` meets its contract: each return is what its definition says, by what the calls ensure and the tests taken.
-- Assumes nothing.
use borrow.Author.Tests.{le-ltb, lt-ltb}
use Rattle.receiver_fragments.specs.Creating.{create}
use Rattle.receiver_fragments.proofs.creating.create.Goals as goal

pub returns-then-len-lt1 : goal.returns-then-len-lt1
unfolding create
returns-then-len-lt1 c =
    rw
    (
    lt-ltb _ _ c.if-len-lt1.true
    )

pub returns-then-len-gt2000000 : goal.returns-then-len-gt2000000
unfolding create
returns-then-len-gt2000000 c =
    rw (
      le-ltb _ _ c.if-len-lt1.false,
      lt-ltb _ _ c.if-len-gt2000000.true,
    )

pub returns : goal.returns
unfolding create
returns c =
    rw (
      le-ltb _ _ c.if-len-lt1.false,
      le-ltb _ _ c.if-len-gt2000000.false,
      ← c.new_tables.ensures,
      ← c.new_header.ensures,
    )
