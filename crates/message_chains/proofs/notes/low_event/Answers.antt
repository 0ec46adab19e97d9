use borrow.Author.Tests.{le-leb, le-ltb, lt-leb, lt-ltb}
use Rattle.message_chains.specs.Notes.{low_noted}
use Rattle.message_chains.proofs.notes.low_event.Goals as goal

-- `message_chains::notes::low_event` meets its contract: each return is what its definition says, by what the calls ensure and the tests taken. Assumes
-- nothing.
pub returns-then-old-threshold : goal.returns-then-old-threshold
unfolding low_noted
returns-then-old-threshold c =
    rw
    (
    le-leb _ _ c.if-old-threshold.true
    )

pub returns-then-new-threshold : goal.returns-then-new-threshold
unfolding low_noted
returns-then-new-threshold c =
    rw (
      lt-leb _ _ c.if-old-threshold.false,
      lt-ltb _ _ c.if-new-threshold.true,
    )

pub returns : goal.returns
unfolding low_noted
returns c =
    rw (
      lt-leb _ _ c.if-old-threshold.false,
      le-ltb _ _ c.if-new-threshold.false,
      ← c.note.ensures,
    )
