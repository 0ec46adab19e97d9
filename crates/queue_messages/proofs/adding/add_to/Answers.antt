use Rattle.std.proofs.lemmas.Result.{err_from_is_err_and}
use native.Mathlib.Omega.{arith}
use lib.ListN.{length}
use Rattle.types.proofs.Refusals.{refusal_above}
use Rattle.queue_streams.specs.Known.{placed}
use Rattle.queue_messages.specs.Add.{add_to}
use Rattle.queue_messages.proofs.Tested.{may_append, passes}
use Rattle.queue_messages.proofs.adding.add_to.Goals as goal

-- `queue_messages::adding::add_to` meets its contract: each return is what its definition says, by what the calls ensure and the tests taken; the message
-- may be appended since its test has passed (proofs/Tested). Assumes nothing.
pub returns-in_err-message_code : goal.returns-in_err-message_code
unfolding add_to
returns-in_err-message_code c =
    let p = err_from_is_err_and c.from_residual.result c.from_residual.ensures.1 in
    rw (p.1, p.2, ← c.stream_for-s.ensures, ← c.in_err-message_code.ensures, refusal_above _)

pub append-requires : goal.append-requires
append-requires c =
    let a = c.args in
    let p = c.requires in
    let l = c.whole.ensures in
    let s = c.stream_for-s.ensures in
    let e = c.in_ok-message_code.ensures in
    let none = passes _ _ _ _ _ _ e s (omega arith) in
    may_append a.queue.now (length a.store.now) a.time a.m (length a.payload.now) (placed a.place) l p.0 p.1 p.2
    none _ _ _ c.row_for-row.ensures s c.make_known.ensures

pub returns : goal.returns
unfolding add_to
returns c =
    rw (
      ← c.stream_for-s.ensures,
      ← c.in_ok-message_code.ensures,
      ← c.row_for-row.ensures,
      ← c.make_known.ensures,
      ← c.append.ensures,
    )
