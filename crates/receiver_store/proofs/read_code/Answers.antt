-- `receiver_store::read_code` meets its contract: each return is what its definition says, by what the calls ensure and the tests taken. Assumes nothing.
use borrow.Author.Tests.{le-ltb, lt-ltb}
use Rattle.receiver_store.specs.Reading.{read_code}
use Rattle.receiver_store.proofs.read_code.Goals as goal

pub returns-then-out : goal.returns-then-out
unfolding read_code
returns-then-out c =
    rw (
      ← c.load_link-place.ensures,
      ← c.load_link-size.ensures,
      ← c.misplaced-out.ensures,
      c.if-out.true,
    )

pub returns-then-at-room : goal.returns-then-at-room
unfolding read_code
returns-then-at-room c =
    rw (
      ← c.load_link-place.ensures,
      ← c.load_link-size.ensures,
      ← c.misplaced-out.ensures,
      c.if-out.false,
      lt-ltb _ _ c.if-at-room.true,
    )

pub returns-then-size-room : goal.returns-then-size-room
unfolding read_code
returns-then-size-room c =
    rw (
      ← c.load_link-place.ensures,
      ← c.load_link-size.ensures,
      ← c.misplaced-out.ensures,
      c.if-out.false,
      le-ltb _ _ c.if-at-room.false,
      lt-ltb _ _ c.if-size-room.true,
    )

pub returns : goal.returns
unfolding read_code
returns c =
    rw (
      ← c.load_link-place.ensures,
      ← c.load_link-size.ensures,
      ← c.misplaced-out.ensures,
      c.if-out.false,
      le-ltb _ _ c.if-at-room.false,
      le-ltb _ _ c.if-size-room.false,
    )
