use Rattle.std.proofs.lemmas.Result.{err_from_is_err_and}
use mathlib.Core.Path.{refl, sym, ap, ◌∙◌}
use native.Mathlib.Omega.{arith}
use Rattle.queue_streams.specs.Known.{as_place}
use Rattle.types.proofs.Refusals.{refusal_above}
use Rattle.queue_messages.specs.Add.{add}
use Rattle.queue_messages.proofs.Lemmas.{arguments_fit, has_place}
use Rattle.queue_messages.proofs.adding.add.Goals as goal

-- `queue_messages::adding::add` meets its contract: each return is what its definition says, by what the calls ensure and the tests taken. Assumes
-- nothing.
pub returns-in_err-arguments_code : goal.returns-in_err-arguments_code
unfolding add
returns-in_err-arguments_code c =
    let p = err_from_is_err_and c.from_residual.result c.from_residual.ensures.1 in
    rw (p.1, p.2, ← c.in_err-arguments_code.ensures, refusal_above _)

pub returns-in_err-place : goal.returns-in_err-place
unfolding add
returns-in_err-place c =
    let p = err_from_is_err_and c.from_residual-in_err-place.result c.from_residual-in_err-place.ensures.1 in
    rw (p.1, p.2, ← c.in_ok-arguments_code.ensures, ← c.look_up-found.ensures, ← c.in_err-place.ensures.0, refusal_above _)

pub add_to-requires : goal.add_to-requires
add_to-requires c =
    let f = arguments_fit _ _ _ _ _ _ c.in_ok-arguments_code.ensures (omega arith) in
    (has_place _ _ _ (sym (ap as_place (c.in_ok-place.ensures.1 _ refl)) ∙ c.look_up-found.ensures), f.0, f.1)

pub returns : goal.returns
unfolding add
returns c =
    rw (
      ← c.in_ok-arguments_code.ensures,
      ← c.look_up-found.ensures,
      ← c.in_ok-place.ensures.0,
      c.in_ok-place.ensures.1 _ refl,
      ← c.add_to.ensures,
    )
