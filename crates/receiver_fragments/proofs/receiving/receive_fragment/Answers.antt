-- `receiver_fragments::receiving::receive_fragment` meets its contract: each return is what its definition says, by what the calls ensure and the tests
-- taken. Assumes nothing.
use borrow.Author.Tests.{le-ltb, lt-ltb}
use Rattle.std.proofs.lemmas.Result.{err_from_is_err_and}
use Rattle.types.proofs.Refusals.{refusal_above}
use Rattle.receiver_fragments.specs.Receiving.{receive_fragment}
use Rattle.receiver_fragments.proofs.receiving.receive_fragment.Goals as goal

pub returns-in_err-held_code : goal.returns-in_err-held_code
unfolding receive_fragment
returns-in_err-held_code c =
    let p = err_from_is_err_and c.from_residual.result c.from_residual.ensures.1 in
    rw (
      p.1,
      p.2,
      ← c.find_row-j.ensures,
      lt-ltb _ _ c.if-j-lt4096.true,
      ← c.in_err-held_code.ensures,
      refusal_above _,
    )

pub returns-then-j-lt4096 : goal.returns-then-j-lt4096
unfolding receive_fragment
returns-then-j-lt4096 c =
    rw (
      ← c.find_row-j.ensures,
      lt-ltb _ _ c.if-j-lt4096.true,
      ← c.in_ok-held_code.ensures,
    )

pub returns-then-again : goal.returns-then-again
unfolding receive_fragment
returns-then-again c =
    rw (
      ← c.find_row-j.ensures,
      le-ltb _ _ c.if-j-lt4096.false,
      ← c.last_tsn-last.ensures,
      ← c.repeats-again.ensures,
      c.if-again.true,
    )

pub returns : goal.returns
unfolding receive_fragment
returns c =
    rw (
      ← c.find_row-j.ensures,
      le-ltb _ _ c.if-j-lt4096.false,
      ← c.last_tsn-last.ensures,
      ← c.repeats-again.ensures,
      c.if-again.false,
      ← c.receive_new.ensures,
    )
