-- `payload_store::drop_code` meets its contract: each way out is a case of `drop_code_words`, by the tests passed and the test taken. Assumes nothing.
use mathlib.Core.Path.{ap}
use borrow.Author.Tests.{lt-ltb, le-ltb, le-leb, lt-leb, eq-eqb, ne_eqb}
use Rattle.queue_words.specs.declared.header.Totals.{Totals}
use Rattle.payload_store.specs.Dropping.{drop_code_words}
use Rattle.payload_store.proofs.drop_code.Goals as goal

pub returns-then-i-ge-MESSAGE_ROWS : goal.returns-then-i-ge-MESSAGE_ROWS
unfolding drop_code_words
returns-then-i-ge-MESSAGE_ROWS c = rw (le-leb _ _ c.if-i-ge-MESSAGE_ROWS.true)

pub returns-then-size-eq0 : goal.returns-then-size-eq0
unfolding drop_code_words
returns-then-size-eq0 c = rw (← c.load_length-size.ensures, lt-leb _ _ c.if-i-ge-MESSAGE_ROWS.false, eq-eqb _ _ c.if-size-eq0.true)

pub returns-then-size-t : goal.returns-then-size-t
unfolding drop_code_words
returns-then-size-t c = rw (← c.load_length-size.ensures, ← ap (λ (t : Totals). t.used) c.load_totals-t.ensures, lt-leb _ _ c.if-i-ge-MESSAGE_ROWS.false, ne_eqb _ _ c.if-size-eq0.false, lt-ltb _ _ c.if-size-t.true)

pub returns : goal.returns
unfolding drop_code_words
returns c = rw (← c.load_length-size.ensures, ← ap (λ (t : Totals). t.used) c.load_totals-t.ensures, lt-leb _ _ c.if-i-ge-MESSAGE_ROWS.false, ne_eqb _ _ c.if-size-eq0.false, le-ltb _ _ c.if-size-t.false)
