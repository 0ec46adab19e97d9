use borrow.Author.Tests.{eq-eqb, ne_eqb}
use Rattle.message_chains.specs.Notes.{lifecycle_noted}
use Rattle.message_chains.proofs.notes.lifecycle_events.Goals as goal

-- `message_chains::notes::lifecycle_events` meets its contract: each return is what its definition says, by what the calls ensure and the tests taken.
-- Assumes nothing.
pub returns-then-id-eq0 : goal.returns-then-id-eq0
unfolding lifecycle_noted
returns-then-id-eq0 c =
    rw
    (
    eq-eqb _ _ c.if-id-eq0.true
    )

pub returns : goal.returns
unfolding lifecycle_noted
returns c =
    rw (
      ne_eqb _ _ c.if-id-eq0.false,
      ← c.note-k1.ensures,
      ← c.note.ensures,
    )
