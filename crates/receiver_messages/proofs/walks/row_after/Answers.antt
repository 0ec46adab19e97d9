-- `receiver_messages::walks::row_after` meets its contract: each return is what its definition says, by what the calls ensure and the tests taken.
-- Assumes nothing.
use borrow.Author.Tests.{eq-eqb, le-leb, lt-leb}
use Rattle.receiver_messages.specs.Walks.{row_after}
use Rattle.receiver_messages.proofs.Exits.{after_on, after_off}
use Rattle.receiver_messages.proofs.walks.row_after.Goals as goal

pub returns-then-j-ge4096 : goal.returns-then-j-ge4096
unfolding row_after
returns-then-j-ge4096 c =
    rw (
      ← c.load_fragment-f.ensures,
      ← c.following-key.ensures,
      ← c.part_index-k.ensures.0,
      ← c.find_row-j.ensures,
      le-leb _ _ c.if-j-ge4096.true,
    )

pub returns-then-whole-eq1 : goal.returns-then-whole-eq1
unfolding row_after
returns-then-whole-eq1 c =
    rw (
      ← c.load_fragment-f.ensures,
      ← c.following-key.ensures,
      ← c.part_index-k.ensures.0,
      ← c.find_row-j.ensures,
      lt-leb _ _ c.if-j-ge4096.false,
      ← c.load_link-whole.ensures,
      eq-eqb _ _ c.if-whole-eq1.true,
    )

pub returns-then-on : goal.returns-then-on
returns-then-on c = after_on _ _ _ _ _ _ _ _ _ _ c.load_fragment-f.ensures c.part_index-k.ensures.0 c.find_row-j.ensures c.if-j-ge4096.false c.load_link-whole.ensures c.if-whole-eq1.false c.load_fragment-g.ensures c.following-key.ensures c.goes_on-on.ensures c.if-on.true

pub returns : goal.returns
returns c = after_off _ _ _ _ _ _ _ _ _ _ c.load_fragment-f.ensures c.part_index-k.ensures.0 c.find_row-j.ensures c.if-j-ge4096.false c.load_link-whole.ensures c.if-whole-eq1.false c.load_fragment-g.ensures c.following-key.ensures c.goes_on-on.ensures c.if-on.false
