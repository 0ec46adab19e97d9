-- `message_chains::dropping::drop_in_state` meets its contract: each return is what its definition says, by what the calls ensure and the tests taken.
-- Assumes nothing.
use native.Mathlib.Omega.{arith}
use Rattle.std.proofs.lemmas.Result.{err_from_is_err_and}
use Rattle.message_chains.specs.Dropping.{dropped_in_state}
use Rattle.message_chains.proofs.Goes.{head_passed}
use Rattle.message_chains.proofs.dropping.drop_in_state.Goals as goal

pub returns-in_err-head_code : goal.returns-in_err-head_code
unfolding dropped_in_state
returns-in_err-head_code c =
    let p = err_from_is_err_and c.from_residual.result c.from_residual.ensures.1 in
    rw (p.1, p.2, ← c.remaining-n.ensures, ← c.in_err-head_code.ensures)

pub drop_behind-requires : goal.drop_behind-requires
drop_behind-requires c = (c.requires.0, c.requires.1, head_passed _ _ _ _ _ _ c.in_ok-head_code.ensures (omega arith))

pub returns : goal.returns
unfolding dropped_in_state
returns c =
    rw (
      ← c.remaining-n.ensures,
      ← c.in_ok-head_code.ensures,
      ← c.drop_behind.ensures,
    )
