-- `receiver_words::index::same_key` meets its contract: each return is what its definition says, by what the calls ensure and the tests taken. Assumes nothing.
use borrow.Author.Tests.{eq-eqb, ne_eqb}
use Rattle.receiver_words.specs.Index.{same_key_words}
use Rattle.receiver_words.proofs.index.same_key.Goals as goal

pub returns-then-k-eq0 : goal.returns-then-k-eq0
unfolding same_key_words
returns-then-k-eq0 c =
    rw (eq-eqb _ _ c.if-k-eq0.true)

pub returns-then-k-eq1 : goal.returns-then-k-eq1
unfolding same_key_words
returns-then-k-eq1 c =
    rw (
      ne_eqb _ _ c.if-k-eq0.false,
      eq-eqb _ _ c.if-k-eq1.true,
      ← c.same_place.ensures,
    )

pub returns : goal.returns
unfolding same_key_words
returns c =
    rw (
      ne_eqb _ _ c.if-k-eq0.false,
      ne_eqb _ _ c.if-k-eq1.false,
      ← c.same_number.ensures,
    )
