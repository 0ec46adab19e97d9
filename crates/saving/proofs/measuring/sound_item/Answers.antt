-- `saving::measuring::sound_item` meets its contract: each return is what its definition says, by what the calls ensure and the tests taken. Assumes nothing.
use borrow.Author.Tests.{le-ltb, lt-ltb}
use Rattle.saving.specs.Measure.{sound_item}
use Rattle.saving.proofs.measuring.sound_item.Goals as goal

pub returns-then-m-gt-MAX_PAYLOAD : goal.returns-then-m-gt-MAX_PAYLOAD
unfolding sound_item
returns-then-m-gt-MAX_PAYLOAD c =
    rw
    (
    lt-ltb _ _ c.if-m-gt-MAX_PAYLOAD.true
    )

pub returns-then-m-len : goal.returns-then-m-len
unfolding sound_item
returns-then-m-len c =
    rw (
      le-ltb _ _ c.if-m-gt-MAX_PAYLOAD.false,
      lt-ltb _ _ c.if-m-len.true,
    )

pub returns-then-m-len-2 : goal.returns-then-m-len-2
unfolding sound_item
returns-then-m-len-2 c =
    rw (
      le-ltb _ _ c.if-m-gt-MAX_PAYLOAD.false,
      le-ltb _ _ c.if-m-len.false,
      lt-ltb _ _ c.if-m-len-2.true,
    )

pub returns : goal.returns
unfolding sound_item
returns c =
    rw (
      le-ltb _ _ c.if-m-gt-MAX_PAYLOAD.false,
      le-ltb _ _ c.if-m-len.false,
      le-ltb _ _ c.if-m-len-2.false,
    )
