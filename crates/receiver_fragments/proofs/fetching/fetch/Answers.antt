-- `receiver_fragments::fetching::fetch` meets its contract: each return is what its definition says, by what the calls ensure and the tests taken.
-- Assumes nothing.
use borrow.Author.Tests.{eq-eqb, le-leb, lt-leb, ne_eqb}
use Rattle.std.proofs.lemmas.Result.{err_from_is_err_and}
use Rattle.receiver_fragments.specs.Fetching.{fetch}
use Rattle.receiver_fragments.proofs.fetching.fetch.Goals as goal

pub returns-then-store-len : goal.returns-then-store-len
unfolding fetch
returns-then-store-len c =
    rw (
      ← c.load_header-len.ensures,
      ne_eqb _ _ c.if-store-len.true,
    )

pub returns-then-row-ge4096 : goal.returns-then-row-ge4096
unfolding fetch
returns-then-row-ge4096 c =
    rw (
      ← c.load_header-len.ensures,
      eq-eqb _ _ c.if-store-len.false,
      ← c.load_header-row.ensures,
      le-leb _ _ c.if-row-ge4096.true,
    )

pub returns-in_err-d : goal.returns-in_err-d
unfolding fetch
returns-in_err-d c =
    let p = err_from_is_err_and c.from_residual.result c.from_residual.ensures.1 in
    rw (
      p.1,
      p.2,
      ← c.load_header-len.ensures,
      eq-eqb _ _ c.if-store-len.false,
      ← c.load_header-row.ensures,
      lt-leb _ _ c.if-row-ge4096.false,
      ← c.in_err-d.ensures,
    )

pub returns : goal.returns
unfolding fetch
returns c =
    rw (
      ← c.load_header-len.ensures,
      eq-eqb _ _ c.if-store-len.false,
      ← c.load_header-row.ensures,
      lt-leb _ _ c.if-row-ge4096.false,
      ← c.in_ok-d.ensures,
    )
