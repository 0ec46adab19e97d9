-- `receiver_calls::receiving::receive` meets its contract: each return is what its definition says, by what the calls ensure and the tests taken.
-- Assumes nothing.
use borrow.Author.Tests.{eq-eqb, ne_eqb}
use Rattle.std.proofs.lemmas.Result.{err_from_is_err_and}
use Rattle.receiver_calls.specs.Receiving.{receive}
use Rattle.receiver_calls.proofs.Inside.{inside}
use Rattle.receiver_calls.proofs.receiving.receive.Goals as goal

pub returns-then-store-length : goal.returns-then-store-length
unfolding receive
returns-then-store-length c =
    rw (
      ← c.load_header-length.ensures,
      ne_eqb _ _ c.if-store-length.true,
    )

pub receive_read-requires : goal.receive_read-requires
receive_read-requires c = inside _ _ c.in_ok-chunk.ensures.is

pub returns-in_err-chunk : goal.returns-in_err-chunk
unfolding receive
returns-in_err-chunk c =
    let p = err_from_is_err_and c.from_residual.result c.from_residual.ensures.1 in
    rw (
      p.1,
      p.2,
      ← c.load_header-length.ensures,
      eq-eqb _ _ c.if-store-length.false,
      ← c.in_err-chunk.ensures.is,
    )

pub returns : goal.returns
unfolding receive
returns c =
    rw (
      ← c.load_header-length.ensures,
      eq-eqb _ _ c.if-store-length.false,
      ← c.in_ok-chunk.ensures.is,
      ← c.receive_read.ensures,
    )
