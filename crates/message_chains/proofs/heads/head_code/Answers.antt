use borrow.Author.Tests.{eq-eqb, le-ltb, lt-ltb, ne_eqb}
use Rattle.message_chains.specs.Heads.{head_code}
use Rattle.message_chains.proofs.heads.head_code.Goals as goal

-- `message_chains::heads::head_code` meets its contract: each return is what its definition says, by what the calls ensure and the tests taken. Assumes
-- nothing.
pub returns-then-n-t : goal.returns-then-n-t
unfolding head_code
returns-then-n-t c =
    rw (
      ← c.load_totals-t.ensures,
      lt-ltb _ _ c.if-n-t.true,
    )

pub returns-then-n-s : goal.returns-then-n-s
unfolding head_code
returns-then-n-s c =
    rw (
      ← c.load_totals-t.ensures,
      le-ltb _ _ c.if-n-t.false,
      lt-ltb _ _ c.if-n-s.true,
    )

pub returns-then-t-eq0 : goal.returns-then-t-eq0
unfolding head_code
returns-then-t-eq0 c =
    rw (
      ← c.load_totals-t.ensures,
      le-ltb _ _ c.if-n-t.false,
      le-ltb _ _ c.if-n-s.false,
      eq-eqb _ _ c.if-t-eq0.true,
    )

pub returns-then-next-gt-NO_MESSAGE : goal.returns-then-next-gt-NO_MESSAGE
unfolding head_code
returns-then-next-gt-NO_MESSAGE c =
    rw (
      ← c.load_totals-t.ensures,
      le-ltb _ _ c.if-n-t.false,
      le-ltb _ _ c.if-n-s.false,
      ne_eqb _ _ c.if-t-eq0.false,
      lt-ltb _ _ c.if-next-gt-NO_MESSAGE.true,
    )

pub returns : goal.returns
unfolding head_code
returns c =
    rw (
      ← c.load_totals-t.ensures,
      le-ltb _ _ c.if-n-t.false,
      le-ltb _ _ c.if-n-s.false,
      ne_eqb _ _ c.if-t-eq0.false,
      le-ltb _ _ c.if-next-gt-NO_MESSAGE.false,
      ← c.drop_code.ensures,
    )
