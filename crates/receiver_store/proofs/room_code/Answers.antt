-- `receiver_store::room_code` meets its contract: each return is what its definition says, by what the calls ensure and the tests taken. Assumes nothing.
use borrow.Author.Tests.{le-leb, le-ltb, lt-leb, lt-ltb}
use Rattle.std.proofs.lemmas.Result.{err_from_is_err_and}
use Rattle.receiver_store.specs.Putting.{room_code}
use Rattle.receiver_store.proofs.room_code.Goals as goal

pub returns-then-used-len : goal.returns-then-used-len
unfolding room_code
returns-then-used-len c =
    rw (
      ← c.load_header-used.ensures,
      lt-ltb _ _ c.if-used-len.true,
    )

pub returns-then-n-len : goal.returns-then-n-len
unfolding room_code
returns-then-n-len c =
    rw (
      ← c.load_header-used.ensures,
      le-ltb _ _ c.if-used-len.false,
      lt-ltb _ _ c.if-n-len.true,
    )

pub returns-then-end-len : goal.returns-then-end-len
unfolding room_code
returns-then-end-len c =
    rw (
      ← c.load_header-used.ensures,
      le-ltb _ _ c.if-used-len.false,
      le-ltb _ _ c.if-n-len.false,
      ← c.load_header-end.ensures,
      lt-ltb _ _ c.if-end-len.true,
    )

pub returns-then-n-len-2 : goal.returns-then-n-len-2
unfolding room_code
returns-then-n-len-2 c =
    rw (
      ← c.load_header-used.ensures,
      le-ltb _ _ c.if-used-len.false,
      le-ltb _ _ c.if-n-len.false,
      ← c.load_header-end.ensures,
      le-ltb _ _ c.if-end-len.false,
      le-leb _ _ c.if-n-len-2.true,
    )

pub returns-in_err-pack_code : goal.returns-in_err-pack_code
unfolding room_code
returns-in_err-pack_code c =
    let p = err_from_is_err_and c.from_residual.result c.from_residual.ensures.1 in
    rw (
      p.1,
      p.2,
      ← c.load_header-used.ensures,
      le-ltb _ _ c.if-used-len.false,
      le-ltb _ _ c.if-n-len.false,
      ← c.load_header-end.ensures,
      le-ltb _ _ c.if-end-len.false,
      lt-leb _ _ c.if-n-len-2.false,
      ← c.in_err-pack_code.ensures,
    )

pub returns : goal.returns
unfolding room_code
returns c =
    rw (
      ← c.load_header-used.ensures,
      le-ltb _ _ c.if-used-len.false,
      le-ltb _ _ c.if-n-len.false,
      ← c.load_header-end.ensures,
      le-ltb _ _ c.if-end-len.false,
      lt-leb _ _ c.if-n-len-2.false,
      ← c.in_ok-pack_code.ensures,
    )
