-- `payload_store::gaps::keeps` meets its contract: each return is what its definition says, by what the calls ensure and the tests taken. Assumes nothing.
use borrow.Author.Tests.{eq-eqb, ne_eqb, le-ltb, lt-ltb}
use Rattle.payload_store.specs.Gaps.{keeps}
use Rattle.payload_store.proofs.gaps.keeps.Goals as goal

pub returns-then-g-eq0 : goal.returns-then-g-eq0
unfolding keeps
returns-then-g-eq0 c = rw (eq-eqb _ _ c.if-g-eq0.true)

pub returns-then-g-gt0 : goal.returns-then-g-gt0
unfolding keeps
returns-then-g-gt0 c = rw (ne_eqb _ _ c.if-g-eq0.false, lt-ltb _ _ c.if-g-gt0.true)

pub returns-then-spare-n : goal.returns-then-spare-n
unfolding keeps
returns-then-spare-n c = rw (ne_eqb _ _ c.if-g-eq0.false, le-ltb _ _ c.if-g-gt0.false, ← c.saturating_sub-spare.ensures, lt-ltb _ _ c.if-spare-n.true)

pub returns : goal.returns
unfolding keeps
returns c =
    rw (
      ne_eqb _ _ c.if-g-eq0.false,
      le-ltb _ _ c.if-g-gt0.false,
      ← c.saturating_sub-spare.ensures,
      le-ltb _ _ c.if-spare-n.false,
      ← c.saturating_sub-room.ensures,
    )
