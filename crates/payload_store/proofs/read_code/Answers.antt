-- `payload_store::read_code` meets its contract: each way out is a case of `read_code`, by the tests passed and the test taken. Assumes nothing.
use borrow.Author.Tests.{lt-ltb, le-ltb, le-leb, lt-leb}
use Rattle.payload_store.specs.Reading.{read_code}
use Rattle.payload_store.proofs.read_code.Goals as goal

pub returns-then-i-ge-MESSAGE_ROWS : goal.returns-then-i-ge-MESSAGE_ROWS
unfolding read_code
returns-then-i-ge-MESSAGE_ROWS c = rw (le-leb _ _ c.if-i-ge-MESSAGE_ROWS.true)

pub returns-then-size-len : goal.returns-then-size-len
unfolding read_code
returns-then-size-len c = rw (← c.load_length-size.ensures, lt-leb _ _ c.if-i-ge-MESSAGE_ROWS.false, lt-ltb _ _ c.if-size-len.true)

pub returns-then-place-len : goal.returns-then-place-len
unfolding read_code
returns-then-place-len c = rw (← c.load_length-size.ensures, ← c.load_place-place.ensures, lt-leb _ _ c.if-i-ge-MESSAGE_ROWS.false, le-ltb _ _ c.if-size-len.false, lt-ltb _ _ c.if-place-len.true)

pub returns-then-off-size : goal.returns-then-off-size
unfolding read_code
returns-then-off-size c = rw (← c.load_length-size.ensures, ← c.load_place-place.ensures, lt-leb _ _ c.if-i-ge-MESSAGE_ROWS.false, le-ltb _ _ c.if-size-len.false, le-ltb _ _ c.if-place-len.false, lt-ltb _ _ c.if-off-size.true)

pub returns-then-n-size : goal.returns-then-n-size
unfolding read_code
returns-then-n-size c = rw (← c.load_length-size.ensures, ← c.load_place-place.ensures, lt-leb _ _ c.if-i-ge-MESSAGE_ROWS.false, le-ltb _ _ c.if-size-len.false, le-ltb _ _ c.if-place-len.false, le-ltb _ _ c.if-off-size.false, lt-ltb _ _ c.if-n-size.true)

pub returns-then-n-room : goal.returns-then-n-room
unfolding read_code
returns-then-n-room c = rw (← c.load_length-size.ensures, ← c.load_place-place.ensures, lt-leb _ _ c.if-i-ge-MESSAGE_ROWS.false, le-ltb _ _ c.if-size-len.false, le-ltb _ _ c.if-place-len.false, le-ltb _ _ c.if-off-size.false, le-ltb _ _ c.if-n-size.false, lt-ltb _ _ c.if-n-room.true)

pub returns : goal.returns
unfolding read_code
returns c = rw (← c.load_length-size.ensures, ← c.load_place-place.ensures, lt-leb _ _ c.if-i-ge-MESSAGE_ROWS.false, le-ltb _ _ c.if-size-len.false, le-ltb _ _ c.if-place-len.false, le-ltb _ _ c.if-off-size.false, le-ltb _ _ c.if-n-size.false, le-ltb _ _ c.if-n-room.false)
