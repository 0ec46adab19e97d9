use borrow.Author.Tests.{le-ltb, lt-ltb}
use native.Mathlib.Omega.{arith}
use Prim.Native.Nat.{◌<◌}
use Rattle.queue_messages.specs.Add.{linked_last}
use Rattle.queue_messages.proofs.adding.link_last.Goals as goal

-- `queue_messages::adding::link_last` meets its contract: each return is what its definition says, by what the calls ensure, the test taken and the last
-- place that the stream has. Assumes nothing.
pub returns-then-s-gt-LAST_MESSAGE : goal.returns-then-s-gt-LAST_MESSAGE
unfolding linked_last
returns-then-s-gt-LAST_MESSAGE c = rw (← c.plus-amount.ensures, lt-ltb _ _ c.if-s-gt-LAST_MESSAGE.true, ← c.store_chain.ensures)

pub returns : goal.returns
unfolding linked_last
returns c =
    let s = c.args.s in
    let p = c.requires in
    let h : s.last < 1024 = p.1 (omega (arith, c.if-s-gt-LAST_MESSAGE.false)) in
    rw (
      ← c.plus-amount.ensures,
      le-ltb _ _ c.if-s-gt-LAST_MESSAGE.false,
      le-ltb 1023 s.last (omega (arith, h)),
      ← c.store_next.ensures,
      ← c.store_chain-2.ensures,
    )
