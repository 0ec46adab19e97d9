-- `saving::messages::left_at` meets its contract: each return is what its definition says, by what the calls ensure and the tests taken. Assumes nothing.
use borrow.Author.Tests.{le-leb, le-ltb, lt-leb, lt-ltb}
use Rattle.saving.specs.Records.{left_at}
use Rattle.saving.proofs.messages.left_at.Goals as goal

pub returns-then-at-time : goal.returns-then-at-time
unfolding left_at
returns-then-at-time c =
    rw
    (
    le-leb _ _ c.if-at-time.true
    )

pub returns-then-left-gt2147483647 : goal.returns-then-left-gt2147483647
unfolding left_at
returns-then-left-gt2147483647 c =
    rw (
      lt-leb _ _ c.if-at-time.false,
      lt-ltb _ _ c.if-left-gt2147483647.true,
    )

pub returns : goal.returns
unfolding left_at
returns c =
    rw (
      lt-leb _ _ c.if-at-time.false,
      le-ltb _ _ c.if-left-gt2147483647.false,
    )
