-- `queue_sending::fragment::write_sent` meets its contract: each return is what its definition says, by what the calls ensure and the tests taken. Assumes nothing.
use borrow.Author.Tests.{eq-eqb, ne_eqb}
use Rattle.queue_sending.specs.Fragment.{written_sent}
use Rattle.queue_sending.proofs.fragment.write_sent.Goals as goal

pub returns-then-n-left : goal.returns-then-n-left
unfolding written_sent
returns-then-n-left c =
    rw (
      ← c.remaining-left.ensures,
      eq-eqb _ _ c.if-n-left.true,
      ← c.finish.ensures,
    )

pub returns-then-had : goal.returns-then-had
unfolding written_sent
returns-then-had c =
    rw (
      ← c.remaining-left.ensures,
      ne_eqb _ _ c.if-n-left.false,
      c.if-had.true,
      ← c.accept_own.ensures,
      ← c.go_further.ensures,
    )

pub returns : goal.returns
unfolding written_sent
returns c =
    rw (
      ← c.remaining-left.ensures,
      ne_eqb _ _ c.if-n-left.false,
      c.if-had.false,
      ← c.accept_own.ensures,
      ← c.go_on.ensures,
    )
