-- `payload_store::searching::reach_row` meets its contract: each return is what its definition says, by what the calls ensure and the tests taken.
-- Assumes nothing.
use borrow.Author.Tests.{eq-eqb, ne_eqb}
use native.Mathlib.Omega.{arith}
use Rattle.payload_store.specs.Searching.{reached}
use Rattle.payload_store.proofs.Found.{row_first, row_sum}
use Rattle.payload_store.proofs.searching.reach_row.Goals as goal

pub returns-then-size-eq0 : goal.returns-then-size-eq0
unfolding reached
returns-then-size-eq0 c = rw (eq-eqb _ _ c.if-size-eq0.true)

pub overflow_add-place : goal.overflow_add-place
overflow_add-place c = omega (arith, row_sum _ _ _ c.lies-inside.ensures c.if-inside.true)

pub raise-requires : goal.raise-requires
raise-requires c = row_first c.args.reach.now _ _ _ c.lies-inside.ensures c.if-inside.true c.requires.1

pub returns-then-inside : goal.returns-then-inside
unfolding reached
returns-then-inside c = rw (ne_eqb _ _ c.if-size-eq0.false, ← c.load_place-place.ensures, ← c.lies-inside.ensures, c.if-inside.true) c.raise.ensures

pub returns-else-inside : goal.returns-else-inside
unfolding reached
returns-else-inside c = rw (ne_eqb _ _ c.if-size-eq0.false, ← c.load_place-place.ensures, ← c.lies-inside.ensures, c.if-inside.false)
