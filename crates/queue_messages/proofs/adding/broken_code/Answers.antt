use borrow.Author.Tests.{le-ltb, lt-ltb}
use Rattle.std.proofs.lemmas.Result.{err_from_is_err_and}
use Rattle.queue_messages.proofs.Tested.{put_goes, put_stays}
use Rattle.queue_messages.specs.Add.{broken_code}
use Rattle.queue_messages.proofs.adding.broken_code.Goals as goal

-- `queue_messages::adding::broken_code` meets its contract: each return is what its definition says, by what the calls ensure and the tests taken.
-- Assumes nothing.
pub returns-then-n-t : goal.returns-then-n-t
unfolding broken_code
returns-then-n-t c =
    rw (
      ← c.load_totals-t.ensures,
      lt-ltb _ _ c.if-n-t.true,
    )

pub returns-then-n-s : goal.returns-then-n-s
unfolding broken_code
returns-then-n-s c =
    rw (
      ← c.load_totals-t.ensures,
      le-ltb _ _ c.if-n-t.false,
      lt-ltb _ _ c.if-n-s.true,
    )

pub returns-in_err-places_code : goal.returns-in_err-places_code
unfolding broken_code
returns-in_err-places_code c =
    let p = err_from_is_err_and c.from_residual.result c.from_residual.ensures.1 in
    rw (
      p.1,
      ← c.load_totals-t.ensures,
      le-ltb _ _ c.if-n-t.false,
      le-ltb _ _ c.if-n-s.false,
      ← c.in_err-places_code.ensures,
    )

pub returns-then-not-room : goal.returns-then-not-room
unfolding broken_code
returns-then-not-room c =
    rw (
      ← c.load_totals-t.ensures,
      le-ltb _ _ c.if-n-t.false,
      le-ltb _ _ c.if-n-s.false,
      ← c.in_ok-places_code.ensures,
      ← c.has_room-room.ensures,
      c.if-not-room.true,
    )

pub returns-in-Ok : goal.returns-in-Ok
unfolding broken_code
returns-in-Ok c =
    rw (
      ← c.load_totals-t.ensures,
      le-ltb _ _ c.if-n-t.false,
      le-ltb _ _ c.if-n-s.false,
      ← c.in_ok-places_code.ensures,
      ← c.has_room-room.ensures,
      c.if-not-room.false,
      ← c.put_code.ensures,
      c.in-Ok.is,
      put_goes _,
    )

pub returns-in-Err : goal.returns-in-Err
unfolding broken_code
returns-in-Err c =
    rw (
      ← c.load_totals-t.ensures,
      le-ltb _ _ c.if-n-t.false,
      le-ltb _ _ c.if-n-s.false,
      ← c.in_ok-places_code.ensures,
      ← c.has_room-room.ensures,
      c.if-not-room.false,
      ← c.put_code.ensures,
      c.in-Err.is,
      put_stays _,
    )
