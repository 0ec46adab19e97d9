-- `handover::image::restore` meets its contract: each return is what its definition says, by what the calls ensure and the tests taken. Assumes nothing.
use borrow.Author.Tests.{le-ltb, lt-ltb}
use Rattle.std.proofs.lemmas.Result.{err_from_is_err_and}
use Rattle.types.proofs.Refusals.{refusal_above}
use Rattle.handover.specs.Restore.{restore}
use Rattle.handover.proofs.Codes.{time_allowed}
use Rattle.handover.proofs.image.restore.Goals as goal

pub returns-in_err-restore_code : goal.returns-in_err-restore_code
unfolding restore
returns-in_err-restore_code c =
    let p = err_from_is_err_and c.from_residual.result c.from_residual.ensures.1 in
    rw (p.1, p.2, ← c.in_err-restore_code.ensures, refusal_above _)

pub returns-then-image-lt20 : goal.returns-then-image-lt20
unfolding restore
returns-then-image-lt20 c =
    rw (
      ← c.in_ok-restore_code.ensures,
      lt-ltb _ _ c.if-image-lt20.true,
    )

pub restore_from-requires : goal.restore_from-requires
restore_from-requires c = time_allowed _ _ _ _ c.in_ok-restore_code.ensures

pub returns : goal.returns
unfolding restore
returns c =
    rw (
      ← c.in_ok-restore_code.ensures,
      le-ltb _ _ c.if-image-lt20.false,
      ← c.read_trailer-t.ensures,
      ← c.restore_from.ensures,
    )
