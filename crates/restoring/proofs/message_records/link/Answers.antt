-- `restoring::message_records::link` meets its contract: each return is what the definition says, by what the calls ensure and the tests taken. Assumes nothing.
use borrow.Author.Tests.{le-ltb, lt-ltb}
use native.Mathlib.Omega.{arith}
use Rattle.queue_messages.specs.Add.{linked_last}
use Rattle.restoring.proofs.message_records.link.Goals as goal

pub returns : goal.returns
unfolding linked_last
returns c =
    let s = c.args.s in
    rw (
      ← c.plus-amount.ensures,
      le-ltb _ _ c.if-s-gt-LAST_MESSAGE.false,
      lt-ltb 1023 s.last (omega (arith, c.if-s-lt-NO_MESSAGE.false)),
      ← c.store_chain.ensures,
    )
