-- `queue_words::known::probe_once` meets its contract: each return is a case of `probed`. Assumes nothing.
use mathlib.Core.Path.{sym, ap}
use borrow.Author.Tests.{lt-ltb, le-ltb}
use Rattle.queue_words.specs.declared.known.Known.{Known}
use Rattle.queue_words.specs.Find.{probed}
use Rattle.queue_words.proofs.known.probe_once.Goals as goal

-- `queue_words::known::probe_once` meets its contract: each return is a case of `probed`. Assumes nothing.
pub returns-then-row-id : goal.returns-then-row-id
unfolding probed
returns-then-row-id c = rw (ap (λ (k : Known). k.id.0) (sym c.load_known-row.ensures), lt-ltb _ _ c.if-row-id.true)

pub returns : goal.returns
unfolding probed
returns c = rw (ap (λ (k : Known). k.id.0) (sym c.load_known-row.ensures), le-ltb _ _ c.if-row-id.false)
