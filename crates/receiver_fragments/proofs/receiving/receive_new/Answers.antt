-- `receiver_fragments::receiving::receive_new` meets its contract: each return is what its definition says, by what the calls ensure and the tests
-- taken. Assumes nothing.
use borrow.Author.Tests.{le-leb, lt-leb}
use Rattle.std.proofs.lemmas.Result.{err_from_is_err_and}
use Rattle.types.proofs.Refusals.{refusal_above}
use Rattle.receiver_fragments.specs.Receiving.{receive_new}
use Rattle.receiver_fragments.proofs.Admits.{admits}
use Rattle.receiver_fragments.proofs.receiving.receive_new.Goals as goal

pub returns-then-beyond : goal.returns-then-beyond
unfolding receive_new
returns-then-beyond c =
    rw (
      ← c.far-beyond.ensures,
      c.if-beyond.true,
    )

pub returns-in_err-admit_code : goal.returns-in_err-admit_code
unfolding receive_new
returns-in_err-admit_code c =
    let p = err_from_is_err_and c.from_residual.result c.from_residual.ensures.1 in
    rw (
      p.1,
      p.2,
      ← c.far-beyond.ensures,
      c.if-beyond.false,
      ← c.find_turn-t.ensures,
      ← c.in_err-admit_code.ensures,
      refusal_above _,
    )

pub returns-then-i-ge4096 : goal.returns-then-i-ge4096
unfolding receive_new
returns-then-i-ge4096 c =
    rw (
      ← c.far-beyond.ensures,
      c.if-beyond.false,
      ← c.find_turn-t.ensures,
      ← c.in_ok-admit_code.ensures,
      ← c.load_header-i.ensures,
      le-leb _ _ c.if-i-ge4096.true,
    )

pub accept-requires : goal.accept-requires
accept-requires c = (c.if-i-ge4096.false, admits _ _ _ _ c.in_ok-admit_code.ensures)

pub returns : goal.returns
unfolding receive_new
returns c =
    rw (
      ← c.far-beyond.ensures,
      c.if-beyond.false,
      ← c.find_turn-t.ensures,
      ← c.in_ok-admit_code.ensures,
      ← c.load_header-i.ensures,
      lt-leb _ _ c.if-i-ge4096.false,
      ← c.accept.ensures,
    )
