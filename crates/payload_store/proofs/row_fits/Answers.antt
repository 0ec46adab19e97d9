-- `payload_store::row_fits` meets its contract: each return is what its definition says, by what the calls ensure and the tests taken. Assumes nothing.
use borrow.Author.Tests.{eq-eqb, le-ltb, lt-ltb, ne_eqb}
use Rattle.payload_store.specs.Putting.{row_fits_words}
use Rattle.payload_store.proofs.row_fits.Goals as goal

pub returns-then-t-eq0 : goal.returns-then-t-eq0
unfolding row_fits_words
returns-then-t-eq0 c =
    rw (eq-eqb _ _ c.if-t-eq0.true)

pub returns-then-size-len : goal.returns-then-size-len
unfolding row_fits_words
returns-then-size-len c =
    rw (
      ne_eqb _ _ c.if-t-eq0.false,
      ← c.load_length-size.ensures,
      lt-ltb _ _ c.if-size-len.true,
    )

pub returns-then-place-len : goal.returns-then-place-len
unfolding row_fits_words
returns-then-place-len c =
    rw (
      ne_eqb _ _ c.if-t-eq0.false,
      ← c.load_length-size.ensures,
      le-ltb _ _ c.if-size-len.false,
      ← c.load_place-place.ensures,
      lt-ltb _ _ c.if-place-len.true,
    )

pub returns-then-size-t : goal.returns-then-size-t
unfolding row_fits_words
returns-then-size-t c =
    rw (
      ne_eqb _ _ c.if-t-eq0.false,
      ← c.load_length-size.ensures,
      le-ltb _ _ c.if-size-len.false,
      ← c.load_place-place.ensures,
      le-ltb _ _ c.if-place-len.false,
      lt-ltb _ _ c.if-size-t.true,
    )

pub returns : goal.returns
unfolding row_fits_words
returns c =
    rw (
      ne_eqb _ _ c.if-t-eq0.false,
      ← c.load_length-size.ensures,
      le-ltb _ _ c.if-size-len.false,
      ← c.load_place-place.ensures,
      le-ltb _ _ c.if-place-len.false,
      le-ltb _ _ c.if-size-t.false,
    )
