use borrow.Author.Tests.{le-ltb, lt-ltb}
use Rattle.message_chains.specs.Notes.{noted}
use Rattle.message_chains.proofs.notes.note.Goals as goal

-- `message_chains::notes::note` meets its contract: each return is what its definition says, by what the calls ensure and the tests taken. Assumes nothing.
pub returns-then-k-gt-LAST_EVENT : goal.returns-then-k-gt-LAST_EVENT
unfolding noted
returns-then-k-gt-LAST_EVENT c =
    rw
    (
    lt-ltb _ _ c.if-k-gt-LAST_EVENT.true
    )

pub returns-then-events-lt-EVENT_WORDS : goal.returns-then-events-lt-EVENT_WORDS
unfolding noted
returns-then-events-lt-EVENT_WORDS c =
    rw (
      le-ltb _ _ c.if-k-gt-LAST_EVENT.false,
      lt-ltb _ _ c.if-events-lt-EVENT_WORDS.true,
    )

pub returns : goal.returns
unfolding noted
returns c =
    rw (
      le-ltb _ _ c.if-k-gt-LAST_EVENT.false,
      le-ltb _ _ c.if-events-lt-EVENT_WORDS.false,
      ← c.put_event.ensures,
    )
