-- `receiver_fragments::checks::admit_code` meets its contract: each return is what its definition says, by what the calls ensure and the tests taken.
-- Assumes nothing.
use borrow.Author.Tests.{eq-eqb, le-leb, le-ltb, lt-leb, lt-ltb, ne_eqb}
use Rattle.receiver_fragments.specs.Checks.{admit_code}
use Rattle.receiver_fragments.proofs.checks.admit_code.Goals as goal

pub returns-then-held-ge4096 : goal.returns-then-held-ge4096
unfolding admit_code
returns-then-held-ge4096 c =
    rw (
      ← c.load_header-held.ensures,
      le-leb _ _ c.if-held-ge4096.true,
    )

pub returns-then-t-gt256 : goal.returns-then-t-gt256
unfolding admit_code
returns-then-t-gt256 c =
    rw (
      ← c.load_header-held.ensures,
      lt-leb _ _ c.if-held-ge4096.false,
      lt-ltb _ _ c.if-t-gt256.true,
    )

pub returns-then-t-eq256 : goal.returns-then-t-eq256
unfolding admit_code
returns-then-t-eq256 c =
    rw (
      ← c.load_header-held.ensures,
      lt-leb _ _ c.if-held-ge4096.false,
      le-ltb _ _ c.if-t-gt256.false,
      eq-eqb _ _ c.if-t-eq256.true,
    )

pub returns : goal.returns
unfolding admit_code
returns c =
    rw (
      ← c.load_header-held.ensures,
      lt-leb _ _ c.if-held-ge4096.false,
      le-ltb _ _ c.if-t-gt256.false,
      ne_eqb _ _ c.if-t-eq256.false,
      ← c.room_code.ensures,
    )
