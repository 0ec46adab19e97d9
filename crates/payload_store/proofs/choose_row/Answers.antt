-- `payload_store::choose_row` meets its contract: each way out is a case of `choose`, by the tests passed and the test taken. Assumes nothing.
use borrow.Author.Tests.{lt-ltb, le-ltb, le-leb, lt-leb, eq-eqb, ne_eqb}
use Rattle.payload_store.specs.Moving.{choose}
use Rattle.payload_store.proofs.choose_row.Goals as goal

pub returns-then-size-eq0 : goal.returns-then-size-eq0
unfolding choose
returns-then-size-eq0 c = rw (← c.load_length-size.ensures, eq-eqb _ _ c.if-size-eq0.true)

pub returns-then-place-cursor : goal.returns-then-place-cursor
unfolding choose
returns-then-place-cursor c = rw (← c.load_length-size.ensures, ← c.load_place-place.ensures, ne_eqb _ _ c.if-size-eq0.false, lt-ltb _ _ c.if-place-cursor.true)

pub returns-then-best-ge-MESSAGE_ROWS : goal.returns-then-best-ge-MESSAGE_ROWS
unfolding choose
returns-then-best-ge-MESSAGE_ROWS c = rw (← c.load_length-size.ensures, ← c.load_place-place.ensures, ne_eqb _ _ c.if-size-eq0.false, le-ltb _ _ c.if-place-cursor.false, le-leb _ _ c.if-best-ge-MESSAGE_ROWS.true)

pub returns-then-place-other : goal.returns-then-place-other
unfolding choose
returns-then-place-other c = rw (← c.load_length-size.ensures, ← c.load_place-place.ensures, ← c.load_place-other.ensures, ne_eqb _ _ c.if-size-eq0.false, le-ltb _ _ c.if-place-cursor.false, lt-leb _ _ c.if-best-ge-MESSAGE_ROWS.false, lt-ltb _ _ c.if-place-other.true)

pub returns : goal.returns
unfolding choose
returns c = rw (← c.load_length-size.ensures, ← c.load_place-place.ensures, ← c.load_place-other.ensures, ne_eqb _ _ c.if-size-eq0.false, le-ltb _ _ c.if-place-cursor.false, lt-leb _ _ c.if-best-ge-MESSAGE_ROWS.false, le-ltb _ _ c.if-place-other.false)
