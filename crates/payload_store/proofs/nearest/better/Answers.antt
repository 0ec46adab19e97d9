-- `payload_store::nearest::better` meets its contract: each way out is a case of `better`, by the tests passed and the test taken. Assumes nothing.
use borrow.Author.Tests.{lt-ltb, le-ltb, le-leb, lt-leb}
use Rattle.payload_store.specs.Moving.{better}
use Rattle.payload_store.proofs.nearest.better.Goals as goal

pub returns-then-c-ge-MESSAGE_ROWS : goal.returns-then-c-ge-MESSAGE_ROWS
unfolding better
returns-then-c-ge-MESSAGE_ROWS c = rw (le-leb _ _ c.if-c-ge-MESSAGE_ROWS.true)

pub returns-then-b-ge-MESSAGE_ROWS : goal.returns-then-b-ge-MESSAGE_ROWS
unfolding better
returns-then-b-ge-MESSAGE_ROWS c = rw (lt-leb _ _ c.if-c-ge-MESSAGE_ROWS.false, le-leb _ _ c.if-b-ge-MESSAGE_ROWS.true)

pub returns-then-place-other : goal.returns-then-place-other
unfolding better
returns-then-place-other c = rw (← c.load_place-place.ensures, ← c.load_place-other.ensures, lt-leb _ _ c.if-c-ge-MESSAGE_ROWS.false, lt-leb _ _ c.if-b-ge-MESSAGE_ROWS.false, lt-ltb _ _ c.if-place-other.true)

pub returns : goal.returns
unfolding better
returns c = rw (← c.load_place-place.ensures, ← c.load_place-other.ensures, lt-leb _ _ c.if-c-ge-MESSAGE_ROWS.false, lt-leb _ _ c.if-b-ge-MESSAGE_ROWS.false, le-ltb _ _ c.if-place-other.false)
