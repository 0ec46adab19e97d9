-- `queue_sending::next_fragment::produce_after` meets its contract: each return is what its definition says, by what the calls ensure and the tests
-- taken. Assumes nothing.
use Rattle.std.proofs.lemmas.Result.{err_from_is_err_and}
use Rattle.queue_sending.specs.Produce.{produced_after}
use Rattle.queue_sending.proofs.next_fragment.produce_after.Goals as goal

pub returns-in_err-next : goal.returns-in_err-next
unfolding produced_after
returns-in_err-next c =
    let p = err_from_is_err_and c.from_residual.result c.from_residual.ensures.1 in
    rw (
      p.1,
      p.2,
      ← c.look_ahead-found.ensures,
      ← c.in_err-next.ensures.0,
    )

pub returns-in-Nothing : goal.returns-in-Nothing
unfolding produced_after
returns-in-Nothing c =
    rw (
      ← c.look_ahead-found.ensures,
      ← c.in_ok-next.ensures.0,
      c.in-Nothing.is,
    )

pub returns-in-Chosen : goal.returns-in-Chosen
unfolding produced_after
returns-in-Chosen c =
    rw (
      ← c.look_ahead-found.ensures,
      ← c.in_ok-next.ensures.0,
      c.in-Chosen.is,
      ← c.hand_out.ensures,
    )
