use borrow.Author.Tests.{le-ltb, lt-ltb}
use Rattle.queue_messages.specs.Discard.{discard}
use Rattle.queue_messages.proofs.Lemmas.{found_row}
use Rattle.std.proofs.Common.{refl}
use Rattle.queue_messages.proofs.discarding.discard.Goals as goal

-- `queue_messages::discarding::discard` meets its contract: each return is what its definition says, by what the calls ensure and the tests taken.
-- Assumes nothing.
pub returns-then-events-lt-EVENT_WORDS : goal.returns-then-events-lt-EVENT_WORDS
unfolding discard
returns-then-events-lt-EVENT_WORDS c =
    rw
    (
    lt-ltb _ _ c.if-events-lt-EVENT_WORDS.true
    )

pub discard_in-requires : goal.discard_in-requires
discard_in-requires c = found_row _ _ _ _ _ c.in-At.ensures refl

pub returns-in-At : goal.returns-in-At
unfolding discard
returns-in-At c =
    rw (
      le-ltb _ _ c.if-events-lt-EVENT_WORDS.false,
      ← c.in-At.ensures,
      ← c.discard_in.ensures,
    )

pub returns-in-Gap : goal.returns-in-Gap
unfolding discard
returns-in-Gap c =
    rw (
      le-ltb _ _ c.if-events-lt-EVENT_WORDS.false,
      ← c.in-Gap.ensures,
    )

pub returns-in-Broken : goal.returns-in-Broken
unfolding discard
returns-in-Broken c =
    rw (
      le-ltb _ _ c.if-events-lt-EVENT_WORDS.false,
      ← c.in-Broken.ensures,
    )
