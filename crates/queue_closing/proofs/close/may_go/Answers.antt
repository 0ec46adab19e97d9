use borrow.Author.Tests.{eq-eqb, le-ltb, lt-ltb, ne_eqb}
use Rattle.queue_closing.specs.Walk.{may_go}
use Rattle.queue_closing.proofs.close.may_go.Goals as goal

-- `queue_closing::close::may_go` meets its contract: each return is what its definition says, by what the calls ensure and the tests taken. Assumes nothing.
pub returns-then-m-gt0 : goal.returns-then-m-gt0
unfolding may_go
returns-then-m-gt0 c =
    rw
    (
    lt-ltb _ _ c.if-m-gt0.true
    )

pub returns-then-m-eq0 : goal.returns-then-m-eq0
unfolding may_go
returns-then-m-eq0 c =
    rw (
      le-ltb _ _ c.if-m-gt0.false,
      eq-eqb _ _ c.if-m-eq0.true,
    )

pub returns-then-m-w : goal.returns-then-m-w
unfolding may_go
returns-then-m-w c =
    rw (
      le-ltb _ _ c.if-m-gt0.false,
      ne_eqb _ _ c.if-m-eq0.false,
      lt-ltb _ _ c.if-m-w.true,
    )

pub returns-then-n-w : goal.returns-then-n-w
unfolding may_go
returns-then-n-w c =
    rw (
      le-ltb _ _ c.if-m-gt0.false,
      ne_eqb _ _ c.if-m-eq0.false,
      le-ltb _ _ c.if-m-w.false,
      lt-ltb _ _ c.if-n-w.true,
    )

pub returns-then-n-w-2 : goal.returns-then-n-w-2
unfolding may_go
returns-then-n-w-2 c =
    rw (
      le-ltb _ _ c.if-m-gt0.false,
      ne_eqb _ _ c.if-m-eq0.false,
      le-ltb _ _ c.if-m-w.false,
      le-ltb _ _ c.if-n-w.false,
      lt-ltb _ _ c.if-n-w-2.true,
    )

pub returns : goal.returns
unfolding may_go
returns c =
    rw (
      le-ltb _ _ c.if-m-gt0.false,
      ne_eqb _ _ c.if-m-eq0.false,
      le-ltb _ _ c.if-m-w.false,
      le-ltb _ _ c.if-n-w.false,
      le-ltb _ _ c.if-n-w-2.false,
    )
