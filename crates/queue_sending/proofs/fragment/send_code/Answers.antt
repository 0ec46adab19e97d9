-- `queue_sending::fragment::send_code` meets its contract: each return is what its definition says, by what the calls ensure and the tests taken.
-- Assumes nothing.
use borrow.Author.Tests.{le-ltb, lt-ltb}
use Rattle.std.proofs.lemmas.Result.{err_from_is_err_and}
use Rattle.queue_sending.specs.Fragment.{send_code}
use Rattle.queue_sending.proofs.fragment.send_code.Goals as goal

pub returns-then-n-left : goal.returns-then-n-left
unfolding send_code
returns-then-n-left c =
    rw (
      ← c.remaining-left.ensures,
      lt-ltb _ _ c.if-n-left.true,
    )

pub returns-in_err-read_code : goal.returns-in_err-read_code
unfolding send_code
returns-in_err-read_code c =
    let p = err_from_is_err_and c.from_residual.result c.from_residual.ensures.1 in
    rw (
      p.1,
      ← c.remaining-left.ensures,
      le-ltb _ _ c.if-n-left.false,
      ← c.in_err-read_code.ensures,
    )

pub returns : goal.returns
unfolding send_code
returns c =
    rw (
      ← c.remaining-left.ensures,
      le-ltb _ _ c.if-n-left.false,
      ← c.in_ok-read_code.ensures,
      ← c.head_code.ensures,
    )
