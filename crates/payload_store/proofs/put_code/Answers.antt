-- `payload_store::put_code` meets its contract: each return is what its definition says, by what the calls ensure and the tests taken. Assumes nothing.
use borrow.Author.Tests.{le-leb, le-ltb, lt-leb, lt-ltb}
use Rattle.payload_store.specs.Putting.{put_code}
use native.Mathlib.Omega.{arith}
use mathlib.Core.Path.{ap, sym, ◌∙◌}
use Rattle.queue_words.specs.declared.header.Totals.{Totals}
use Rattle.payload_store.proofs.Clear.{right_ordered, for_gap}
use Rattle.payload_store.proofs.put_code.Goals as goal

pub returns-then-i-ge-MESSAGE_ROWS : goal.returns-then-i-ge-MESSAGE_ROWS
unfolding put_code
returns-then-i-ge-MESSAGE_ROWS c =
    rw (le-leb _ _ c.if-i-ge-MESSAGE_ROWS.true)

pub returns-then-size-gt0 : goal.returns-then-size-gt0
unfolding put_code
returns-then-size-gt0 c =
    rw (
      lt-leb _ _ c.if-i-ge-MESSAGE_ROWS.false,
      ← c.load_length-size.ensures,
      lt-ltb _ _ c.if-size-gt0.true,
    )

pub returns-then-t-len : goal.returns-then-t-len
unfolding put_code
returns-then-t-len c =
    rw (
      lt-leb _ _ c.if-i-ge-MESSAGE_ROWS.false,
      ← c.load_length-size.ensures,
      le-ltb _ _ c.if-size-gt0.false,
      ← ap (λ (t : Totals). t.used) c.load_totals-t.ensures,
      ← ap (λ (t : Totals). t.gaps) c.load_totals-t.ensures,
      lt-ltb _ _ c.if-t-len.true,
    )

pub returns-then-n-len : goal.returns-then-n-len
unfolding put_code
returns-then-n-len c =
    rw (
      lt-leb _ _ c.if-i-ge-MESSAGE_ROWS.false,
      ← c.load_length-size.ensures,
      le-ltb _ _ c.if-size-gt0.false,
      ← ap (λ (t : Totals). t.used) c.load_totals-t.ensures,
      ← ap (λ (t : Totals). t.gaps) c.load_totals-t.ensures,
      le-ltb _ _ c.if-t-len.false,
      lt-ltb _ _ c.if-n-len.true,
    )

pub returns-then-wrong : goal.returns-then-wrong
unfolding put_code
returns-then-wrong c =
    rw (
      lt-leb _ _ c.if-i-ge-MESSAGE_ROWS.false,
      ← c.load_length-size.ensures,
      le-ltb _ _ c.if-size-gt0.false,
      ← ap (λ (t : Totals). t.used) c.load_totals-t.ensures,
      ← ap (λ (t : Totals). t.gaps) c.load_totals-t.ensures,
      le-ltb _ _ c.if-t-len.false,
      le-ltb _ _ c.if-n-len.false,
      ← c.gaps_wrong-wrong.ensures,
      c.if-wrong.true,
    )

pub gap_for-g-requires : goal.gap_for-g-requires
gap_for-g-requires c = let o = right_ordered _ _ (sym c.gaps_wrong-wrong.ensures ∙ c.if-wrong.false) in (o.from_in, o.end_in)

pub overflow_sub-g : goal.overflow_sub-g
overflow_sub-g c = omega (arith, for_gap _ _ _ _ _ c.gaps_wrong-wrong.ensures c.if-wrong.false c.gap_for-g.ensures)

pub returns-then-n-g : goal.returns-then-n-g
unfolding put_code
returns-then-n-g c =
    rw (
      lt-leb _ _ c.if-i-ge-MESSAGE_ROWS.false,
      ← c.load_length-size.ensures,
      le-ltb _ _ c.if-size-gt0.false,
      ← ap (λ (t : Totals). t.used) c.load_totals-t.ensures,
      ← ap (λ (t : Totals). t.gaps) c.load_totals-t.ensures,
      le-ltb _ _ c.if-t-len.false,
      le-ltb _ _ c.if-n-len.false,
      ← c.gaps_wrong-wrong.ensures,
      c.if-wrong.false,
      ← c.gap_for-g.ensures,
      le-leb _ _ c.if-n-g.true,
    )

pub returns-then-fit : goal.returns-then-fit
unfolding put_code
returns-then-fit c =
    rw (
      lt-leb _ _ c.if-i-ge-MESSAGE_ROWS.false,
      ← c.load_length-size.ensures,
      le-ltb _ _ c.if-size-gt0.false,
      ← ap (λ (t : Totals). t.used) c.load_totals-t.ensures,
      ← ap (λ (t : Totals). t.gaps) c.load_totals-t.ensures,
      le-ltb _ _ c.if-t-len.false,
      le-ltb _ _ c.if-n-len.false,
      ← c.gaps_wrong-wrong.ensures,
      c.if-wrong.false,
      ← c.gap_for-g.ensures,
      lt-leb _ _ c.if-n-g.false,
      ← c.all_fit-fit.ensures,
      c.if-fit.true,
    )

pub returns : goal.returns
unfolding put_code
returns c =
    rw (
      lt-leb _ _ c.if-i-ge-MESSAGE_ROWS.false,
      ← c.load_length-size.ensures,
      le-ltb _ _ c.if-size-gt0.false,
      ← ap (λ (t : Totals). t.used) c.load_totals-t.ensures,
      ← ap (λ (t : Totals). t.gaps) c.load_totals-t.ensures,
      le-ltb _ _ c.if-t-len.false,
      le-ltb _ _ c.if-n-len.false,
      ← c.gaps_wrong-wrong.ensures,
      c.if-wrong.false,
      ← c.gap_for-g.ensures,
      lt-leb _ _ c.if-n-g.false,
      ← c.all_fit-fit.ensures,
      c.if-fit.false,
    )
