-- `receiver_words::index::same_place` meets its contract: each return is what its definition says, by what the calls ensure and the tests taken. Assumes
-- nothing.
use borrow.Author.Tests.{eq-eqb, ne_eqb}
use Rattle.receiver_words.specs.Index.{same_place_words}
use Rattle.receiver_words.proofs.index.same_place.Goals as goal

pub returns-then-f-g : goal.returns-then-f-g
unfolding same_place_words
returns-then-f-g c =
    rw (ne_eqb _ _ c.if-f-g.true)

pub returns-then-f-g-2 : goal.returns-then-f-g-2
unfolding same_place_words
returns-then-f-g-2 c =
    rw (
      eq-eqb _ _ c.if-f-g.false,
      ne_eqb _ _ c.if-f-g-2.true,
    )

pub returns-then-f-g-3 : goal.returns-then-f-g-3
unfolding same_place_words
returns-then-f-g-3 c =
    rw (
      eq-eqb _ _ c.if-f-g.false,
      eq-eqb _ _ c.if-f-g-2.false,
      ne_eqb _ _ c.if-f-g-3.true,
    )

pub returns : goal.returns
unfolding same_place_words
returns c =
    rw (
      eq-eqb _ _ c.if-f-g.false,
      eq-eqb _ _ c.if-f-g-2.false,
      eq-eqb _ _ c.if-f-g-3.false,
    )
