use Rattle.queue_closing.specs.Walk.{walk_item}
use Rattle.queue_closing.proofs.close.walk_item.Goals as goal

-- `queue_closing::close::walk_item` meets its contract: each return is what its definition says, by what the calls ensure and the tests taken. Assumes nothing.
pub returns-then-goes : goal.returns-then-goes
unfolding walk_item
returns-then-goes c =
    rw (
      ← c.remaining-n.ensures,
      ← c.may_go-goes.ensures,
      c.if-goes.true,
      ← c.minus.ensures,
      ← c.minus-then-goes.ensures,
      ← c.minus-then-goes-2.ensures,
      ← c.minus-then-goes-3.ensures,
    )

pub returns : goal.returns
unfolding walk_item
returns c =
    rw (
      ← c.remaining-n.ensures,
      ← c.may_go-goes.ensures,
      c.if-goes.false,
      ← c.walk_failed.ensures,
    )
