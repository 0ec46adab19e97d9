-- `saving::measuring::tally_queue` meets its contract: each return is what its definition says, by what the calls ensure and the tests taken. Assumes nothing.
use borrow.Author.Tests.{le-ltb, lt-ltb}
use mathlib.Core.Path.{ap}
use Rattle.queue_words.specs.declared.header.Totals.{Totals}
use Rattle.saving.specs.Measure.{tally_queue}
use Rattle.saving.proofs.measuring.tally_queue.Goals as goal

pub returns-then-t-gt-STREAMS : goal.returns-then-t-gt-STREAMS
unfolding tally_queue
returns-then-t-gt-STREAMS c =
    rw (
      ← ap (λ (z : Totals). z.known) c.load_totals-t.ensures,
      lt-ltb _ _ c.if-t-gt-STREAMS.true,
    )

pub returns : goal.returns
unfolding tally_queue
returns c =
    rw (
      ← ap (λ (z : Totals). z.known) c.load_totals-t.ensures,
      le-ltb _ _ c.if-t-gt-STREAMS.false,
      ← c.tally_streams.ensures,
    )
