-- `receiver_words::index::bucket_of` meets its contract: each return is what its definition says, by what the calls ensure and the tests taken. Assumes
-- nothing.
use borrow.Author.Tests.{eq-eqb, ne_eqb}
use mathlib.Core.Path.{refl}
use Rattle.receiver_words.specs.Index.{bucket_of}
use native.Mathlib.Omega.{arith}
use Rattle.receiver_words.proofs.index.bucket_of.Goals as goal

pub returns-then-k-eq0 : goal.returns-then-k-eq0
unfolding bucket_of
returns-then-k-eq0 c =
    rw
    (
    eq-eqb _ _ c.if-k-eq0.true
    ) (refl, omega arith)

pub returns-then-k-eq1 : goal.returns-then-k-eq1
unfolding bucket_of
returns-then-k-eq1 c =
    rw (
      ne_eqb _ _ c.if-k-eq0.false,
      eq-eqb _ _ c.if-k-eq1.true,
    ) (refl, omega arith)

pub returns : goal.returns
unfolding bucket_of
returns c =
    rw (
      ne_eqb _ _ c.if-k-eq0.false,
      ne_eqb _ _ c.if-k-eq1.false,
    ) (refl, omega arith)
